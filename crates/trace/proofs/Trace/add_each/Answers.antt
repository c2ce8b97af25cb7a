-- `trace::Trace::add_each` meets its contract. Assumes nothing.
use mathlib.Core.Path.{◌≡◌, sym}
use Prim.Native.Nat.{◌<◌}
use native.Mathlib.Omega.{arith}
use lib.ListN.{length, get_or}
use Rattle.sample.specs.Samples.{samples}
use Rattle.checks.proofs.Passed.{trace_passed}
use Rattle.trace.specs.Calls.{buffers, PutGives}
use Rattle.trace.specs.Upload.{zipped}
use Rattle.trace.proofs.Upload.{no_sample, zipped_length, zipped_at, underway_none, next_few, underway_more, underway_stops, underway_ends}
use Rattle.trace.proofs.Trace.add_each.Goals as goal
use Rattle.trace.proofs.Trace.add_each.Goals.{After-at, After-admit-next}

pub loop-i-init : goal.loop-i-init
loop-i-init c =
    let l = c.args.lists in
    underway_none (λ o. c.requires.1 (omega (arith, zipped_length l.across.now l.up.now l.marks.now c.requires.0)))

-- a sample is left
left : (c : After-at) → let l = c.args.lists in c.loop-i.i < length (zipped l.across.now l.up.now l.marks.now)
left c = let l = c.args.lists in omega (arith, zipped_length l.across.now l.up.now l.marks.now c.requires.0)

-- and this is what becomes of it
next : (c : After-admit-next) → let i = c.loop-i in let l = c.args.lists in let r = c.admit-next in
    PutGives i.trace (buffers (samples i.xs i.ys i.marks) i.table) i.trace.held (get_or (zipped l.across.now l.up.now l.marks.now) i.i no_sample) r.result (buffers (samples r.new.xs r.new.ys r.new.marks) r.new.table)
next c =
    let l = c.args.lists in
    rw (zipped_at l.across.now l.up.now l.marks.now c.loop-i.i c.requires.0 (omega arith)) (rw c.at.ensures at c.admit-next.ensures)

pub admit-next-requires : goal.admit-next-requires
admit-next-requires c = sym ((trace_passed _ _ _).1 (c.loop-i.invariant.ready (left (goal.at.admit-next-requires c).After-at)))

pub returns-in_default : goal.returns-in_default
returns-in_default c =
    let p = goal.at.returns-in_default c in
    rw c.in_default.is (underway_stops c.loop-i.invariant (left p.After-at) (next p.After-admit-next) c.in_default.is)

pub overflow_add-cells : goal.overflow_add-cells
overflow_add-cells c =
    let p = goal.at.overflow_add-cells c in
    let U = c.loop-i.invariant in
    let P = (U.ready (left p.After-at)).0 in
    omega (arith, U.within, U.few, P.held, P.sized.3, next_few U (left p.After-at) (next p.After-admit-next) c.in-Ok.is)

pub loop-i-preserved : goal.loop-i-preserved
loop-i-preserved c =
    let p = goal.at.loop-i-preserved c in
    underway_more c.loop-i.invariant (left p.After-at) (next p.After-admit-next) c.in-Ok.is

pub returns : goal.returns
returns c =
    let l = c.args.lists in
    let all : length l.across.now ≡ c.loop-i.i = omega arith in
    rw all (underway_ends c.loop-i.invariant (omega (arith, zipped_length l.across.now l.up.now l.marks.now c.requires.0)))
