use Rattle.std.proofs.Common.{arith, length, ◌<◌}
use Rattle.std.proofs.lemmas.List.{take_all}
use Rattle.list_core.proofs.FirstLines.{front-rest, front-end, front-many, front-long, front-failed}
use Rattle.list_core.proofs.first_line.judge_rest.Goals as goal

pub returns-then-taken-ge-MOST_LINES-clause-front : goal.returns-then-taken-ge-MOST_LINES-clause-front
returns-then-taken-ge-MOST_LINES-clause-front c = front-many _ _ _ (omega arith) (omega arith)

pub returns-then-size-gt-LONGEST_LINE-clause-front : goal.returns-then-size-gt-LONGEST_LINE-clause-front
returns-then-size-gt-LONGEST_LINE-clause-front c =
    let xs = c.args.held.now in
    front-long _ _ xs (length xs) (rw (take_all (length xs) xs (omega arith)) c.requires.first) (omega arith) (omega arith) (omega (arith, c.else-size-gt0.either))

pub returns-in-End-clause-front : goal.returns-in-End-clause-front
returns-in-End-clause-front c = rw c.in-End.is (front-end _ _ (omega arith))

pub returns-in-End-2-clause-front : goal.returns-in-End-2-clause-front
returns-in-End-2-clause-front c = rw c.in-End-2.is (front-rest _ _ c.requires.first (omega arith) (omega arith) (omega (arith, c.else-size-gt0.either)))

pub returns-in-Failed-clause-front : goal.returns-in-Failed-clause-front
returns-in-Failed-clause-front c =
    let few : 0 < length c.args.held.now → c.args.taken < 1000000 = λ h. omega (arith, c.else-size-gt0.either) in
    rw c.in-Failed.is (front-failed _ _ c.requires.first (omega arith) few)
