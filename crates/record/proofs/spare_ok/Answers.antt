-- `record::spare_ok` meets its contract: the four bytes that are tested are those of the definition. Assumes nothing.
use Rattle.std.proofs.Common.{rules, ◌≡◌, ◌+◌, ◌∙◌, take, drop, eqb, arith}
use Rattle.std.specs.List.{list_all}
use Rattle.record.specs.Record.{spare_ok}
use Rattle.record.proofs.Record.{all_part}
use Rattle.record.proofs.spare_ok.Goals as goal

pub returns : goal.returns
unfolding spare_ok
returns c =
    let tested : let a = c.args in c.all.result ≡ list_all (λ b. eqb b 0) (take 4 (drop (a.p + 12) a.s.now)) = search rules in
    let a = c.args in
    tested ∙ all_part _ a.s.now (a.p + 12) 4 (omega arith)
