use Rattle.std.proofs.Common.{◌≡◌}
use Rattle.reconstruction.specs.Meanings.{saved, room_of}
use Rattle.session.specs.Meanings.{checking_variables}
use Rattle.trace.specs.Sessions.{progress, lines_of}
use Rattle.trace.proofs.Stepping.{read_numbered}
use Rattle.trace.proofs.reading.send_lines.Given as goal

abbrev pub invariant-loop-number : goal.invariant-loop-number
invariant-loop-number g l =
    (goal.iterator-loop-number g).can_next l.number-iterator × (goal.iterator-loop-number g).is_finite l.number-iterator ×
    (read_numbered l.initial.marks (g.D.ClauseDatabase.limited l.initial.db) (room_of l.initial.stack) (progress l.session (g.D.ClauseDatabase.standing l.db) (saved l.stack)) (lines_of l.number-iterator) ≡
    read_numbered l.initial.marks (g.D.ClauseDatabase.limited l.initial.db) (room_of l.initial.stack) (progress l.initial.session (g.D.ClauseDatabase.standing l.initial.db) (saved l.initial.stack)) (lines_of l.fn.lines)) ×
    (checking_variables l.session ≡ checking_variables l.initial.session) ×
    (g.D.ClauseDatabase.limited l.db ≡ g.D.ClauseDatabase.limited l.initial.db) ×
    (room_of l.stack ≡ room_of l.initial.stack) ×
    (l.marks ≡ l.initial.marks)
