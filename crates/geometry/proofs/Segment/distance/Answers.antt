-- `geometry::Segment::distance` meets its contract: its two tests tell the three cases. Assumes nothing.
use native.Mathlib.Omega.{arith}
use Rattle.geometry.proofs.Decide.{at_beginning, at_end, at_between}
use Rattle.geometry.proofs.Ways.{handed}
use Rattle.geometry.proofs.Segment.distance.Goals as goal

pub returns-then-dot-le0 : goal.returns-then-dot-le0
returns-then-dot-le0 c =
    let a = c.args in
    let d = c.dot-dot in
    let e = handed d.result d.type_inv in
    rw (at_beginning a.self.end.across a.self.end.up a.to.across a.to.up (rw (e, d.ensures) at c.if-dot-le0.true)) c.distance_from.ensures

pub returns-then-length-dot : goal.returns-then-length-dot
returns-then-length-dot c =
    let a = c.args in
    let d = c.dot-dot in
    let e = handed d.result d.type_inv in
    rw (at_end a.self.end.across a.self.end.up a.to.across a.to.up (rw (e, d.ensures) at c.if-dot-le0.false) (omega (arith, a.self.measured, rw (e, d.ensures) at c.if-length-dot.true)))
    c.distance_from-then-length-dot.ensures

pub returns : goal.returns
returns c =
    let a = c.args in
    let d = c.dot-dot in
    let e = handed d.result d.type_inv in
    rw (at_between a.self.end.across a.self.end.up a.to.across a.to.up (rw (e, d.ensures) at c.if-dot-le0.false) (omega (arith, a.self.measured, rw (e, d.ensures) at c.if-length-dot.false)))
    c.distance_from-2.ensures
