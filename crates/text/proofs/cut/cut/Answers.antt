use Rattle.std.proofs.Common.{rules}
use Rattle.std.proofs.lemmas.List.{take_rest, drop_all, length-drop}
use Rattle.text.proofs.Cuts.{rows_cut, rows_whole}
use Rattle.text.proofs.cut.cut.Goals as goal

pub returns-then-end-text : goal.returns-then-end-text
returns-then-end-text c = search (rules, take_rest, length-drop, rows_cut)

pub returns-else-end-text : goal.returns-else-end-text
returns-else-end-text c = search (rules, take_rest, drop_all, length-drop, rows_whole)
