use Rattle.std.proofs.Common.{◌≡◌, ◌+◌, ◌-◌}
use Rattle.word_rules.specs.Marks.{clear_rows}
use Rattle.word_cell.proofs.marks.clear_rows.Given as goal

abbrev pub invariant-loop-row : goal.invariant-loop-row
invariant-loop-row l = clear_rows l.wide l.flags l.row (l.first + l.count - l.row) l.marks ≡ clear_rows l.wide l.flags l.first l.count l.initial.marks
