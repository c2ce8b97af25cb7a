-- `day::day_text` meets its contract: the file, a put or the read is refused, or the levels are written. Assumes nothing.
use Rattle.std.proofs.Common.{refl}
use Rattle.std.proofs.lemmas.Result.{err_from_is_err_and}
use Rattle.sample.specs.Samples.{samples}
use Rattle.day.proofs.Records.{good_sum}
use Rattle.day.proofs.Reported.{number_few, reported_day}
use Rattle.day.proofs.day_text.Goals as goal

pub returns-in_err-levels : goal.returns-in_err-levels
returns-in_err-levels c =
    let p = err_from_is_err_and c.from_residual-in_err-levels.result c.from_residual-in_err-levels.ensures.1 in
    let good = rw c.pause_line-line.ensures.value at c.in_ok-line.was in
    let a = c.in_ok-trace.ensures in
    let r = rw a.0 at c.read-levels.ensures in
    rw (p.1, p.2) (number_few _ good {xs = samples c.add_all.new.xs c.add_all.new.ys c.add_all.new.marks} a.1 refl r _ c.in_err-levels.was, refl)

pub returns : goal.returns
returns c =
    let good = rw c.pause_line-line.ensures.value at c.in_ok-line.was in
    let a = c.in_ok-trace.ensures in
    let r = rw a.0 at c.read-levels.ensures in
    let t = rw (a.0, c.pause_line-line.ensures.value, good_sum _ good) at c.levels_text.ensures in
    reported_day _ good {xs = samples c.add_all.new.xs c.add_all.new.ys c.add_all.new.marks} a.1 refl r c.in_ok-levels.was t
