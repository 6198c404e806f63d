use Rattle.std.proofs.Common.{◌≡◌}
use Rattle.reader.specs.Scanning.{words_of}
use Rattle.reader.specs.Tokens.{last_line}
use Rattle.reader.specs.Formulas.{read_words}
use Rattle.reader.specs.Sessions.{reading}
use Rattle.reader.proofs.formula.read_lists.Given as goal

abbrev pub invariant-loop-line : goal.invariant-loop-line
invariant-loop-line g l =
    (goal.iterator-loop-line g).can_next l.line-iterator × (goal.iterator-loop-line g).is_finite l.line-iterator ×
    (l.lists.header ≡ l.initial.lists.header) ×
    (g.D.ClauseDatabase.limited l.db ≡ g.D.ClauseDatabase.limited l.initial.db) ×
    (read_words (g.D.ClauseDatabase.limited l.initial.db) l.initial.lists.header.counts (last_line l.fn.text) (reading l.lists (g.D.ClauseDatabase.standing l.db)) (words_of l.line-iterator) ≡
    read_words (g.D.ClauseDatabase.limited l.initial.db) l.initial.lists.header.counts (last_line l.fn.text) (reading l.initial.lists (g.D.ClauseDatabase.standing l.initial.db)) (words_of l.fn.words))
