use Rattle.task_engine.proofs.over_events.over_events.Goals as goal

pub returns-in-true-true : goal.returns-in-true-true
returns-in-true-true g c =
    let e = c.over.ensures in
    let known = c.in-true-true in
    record { text = rw (known.is-0, known.is-1) (rw known.is-0 at e.text); passed = rw (known.is-1, known.is-0) e.passed; links = rw known.is-0 e.links; read_fault = e.read_fault; fault = e.fault }

pub returns-in-true-false : goal.returns-in-true-false
returns-in-true-false g c =
    let e = c.over-in-true-false.ensures in
    let known = c.in-true-false in
    record { text = rw (known.is-0, known.is-1) (rw known.is-0 at e.text); passed = rw known.is-1 e.passed; links = rw known.is-0 e.links; read_fault = e.read_fault; fault = e.fault }

pub returns-in-false-true : goal.returns-in-false-true
returns-in-false-true g c =
    let e = c.over-in-false-true.ensures in
    let known = c.in-false-true in
    record { text = rw (known.is-0, known.is-1) (rw known.is-0 at e.text); passed = rw (known.is-1, known.is-0) e.passed; links = rw known.is-0 e.links; read_fault = e.read_fault; fault = e.fault }

pub returns-in-false-false : goal.returns-in-false-false
returns-in-false-false g c =
    let e = c.over-in-false-false.ensures in
    let known = c.in-false-false in
    record { text = rw (known.is-0, known.is-1) (rw known.is-0 at e.text); passed = rw known.is-1 e.passed; links = rw known.is-0 e.links; read_fault = e.read_fault; fault = e.fault }
