use Rattle.std.proofs.Common.{arith}
use Rattle.list_core.proofs.FirstLines.{front-line, front-many, front-long}
use Rattle.list_core.proofs.first_line.judge.Goals as goal

pub returns-then-taken-ge-MOST_LINES-clause-front : goal.returns-then-taken-ge-MOST_LINES-clause-front
returns-then-taken-ge-MOST_LINES-clause-front c =
    let first = rw c.in-Some.is at c.requires.first in
    front-many _ _ _ (omega (arith, first.0)) (omega arith)

pub returns-then-size-gt-LONGEST_LINE-clause-front : goal.returns-then-size-gt-LONGEST_LINE-clause-front
returns-then-size-gt-LONGEST_LINE-clause-front c =
    let first = rw c.in-Some.is at c.requires.first in
    front-long _ _ _ c.in-Some.size first.2 (omega (arith, first.0)) (omega arith) (omega arith)

pub returns-else-size-gt-LONGEST_LINE-clause-front : goal.returns-else-size-gt-LONGEST_LINE-clause-front
returns-else-size-gt-LONGEST_LINE-clause-front c =
    let first = rw c.in-Some.is at c.requires.first in
    front-line _ _ _ c.in-Some.size first (omega arith) (omega arith)
