-- `table::Table::level_ok` meets its contract. Assumes nothing.
use Rattle.std.proofs.Common.{◌≡◌, ◌-◌, ◌∙◌, arith, sym, rules}
use Rattle.table.specs.Table.{at}
use Rattle.table.specs.Check.{row_ok}
use Rattle.table.proofs.Address.{at_in}
use Rattle.table.proofs.Check.{row_part, level_no, level_yes}
use Rattle.table.proofs.Table.level_ok.Goals as goal
use Rattle.table.proofs.Table.level_ok.Goals.{After-row_ok}

-- what the call says of the row
said : (c : After-row_ok) → let a = c.args in let j = c.loop-j.j in row_ok a.self.cells.now (at a.self.capacity a.k (j - 1) j) a.k (a.held - j) ≡ c.row_ok.result
said c =
    let a = c.args in
    let j = c.loop-j.j in
    let h = at_in a.self.capacity a.k (j - 1) (a.held - 1) _ c.requires.0 (omega arith) (omega arith) c.requires.3 in
    rw (← c.cell_at-base.ensures.0) (sym (row_part a.self.cells.now c.cell_at-base.result (a.held - j) a.k _ (omega arith) (omega arith)) ∙ sym c.row_ok.ensures)

pub returns-then-not-row_ok : goal.returns-then-not-row_ok
returns-then-not-row_ok c = sym (level_no _ _ _ _ c.loop-j.j (omega arith) (omega arith) (said (goal.at.returns-then-not-row_ok c).After-row_ok ∙ c.if-not-row_ok.true))

pub loop-j-preserved : goal.loop-j-preserved
loop-j-preserved c = let h = said (goal.at.loop-j-preserved c).After-row_ok ∙ c.if-not-row_ok.false in λ x a b. search (rules, h)

pub returns : goal.returns
returns c = sym (level_yes _ _ _ _ (λ j a b. c.loop-j.invariant j a (omega arith)))
