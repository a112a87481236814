use Rattle.std.proofs.Common.{Ok, Err, Some, None, refl, sym, ◌∙◌, ap, ◌++◌, take, drop, ◌+◌, arith}
use Rattle.list_core.specs.Lines.{faulty}
use Rattle.list_core.specs.Reader.{stream}
use Rattle.list_core.specs.Items.{listing, stops}
use Rattle.list_core.specs.declared.line_rules.ItemFault.TheVariants as fault
use Rattle.list_core.specs.ItemReader.{reader_state}
use Rattle.list_core.proofs.ItemReaders.{tells, skips, listing-end, listing-fault, listing-line}
use Rattle.list_core.proofs.Devices.{Gives-from_Consumes}
use Rattle.list_core.proofs.item_reader.ItemReader.try_line.Goals as goal

pub returns-in-Err : goal.returns-in-Err
returns-in-Err g c =
    let p = c.in-Err.ensures.given in
    let front = c.in-Err.ensures.front in
    let s = c.args.self.now.rules in
    let mid = reader_state (stream g.R.Source.left g.R.Source.ending c.fill.new.self) s in (
      tells _ _ mid _ _ p.0 p.1 c.in-Err.ensures.taken refl p.2 p.3 p.4 refl refl c.in-Err.ensures.bounded (omega arith, front.0) refl refl tt
          (λ more z f. (listing-fault _ s mid.ending mid.taken mid.held c.in-Err.fault front.0 front.1 more z f, refl)),
      refl,
    )

pub returns-in-None : goal.returns-in-None
returns-in-None g c =
    let e = rw c.in-Ok-None.field-0-is at c.in-Ok-None.ensures in
    let p = e.given in
    let s = c.args.self.now.rules in
    let mid = reader_state (stream g.R.Source.left g.R.Source.ending c.fill.new.self) s in (
      tells _ _ mid _ _ p.0 p.1 e.taken refl p.2 p.3 p.4 refl refl e.bounded (omega arith) refl refl tt
          (λ more z f. (listing-end _ s mid.ending mid.taken mid.held None (sym c.in-None.ensures) e.front more z f, refl)),
      refl,
    )

pub returns-in-Some : goal.returns-in-Some
returns-in-Some g c =
    let e = rw c.in-Ok-None.field-0-is at c.in-Ok-None.ensures in
    let p = e.given in
    let s = c.args.self.now.rules in
    let mid = reader_state (stream g.R.Source.left g.R.Source.ending c.fill.new.self) s in
    let number = c.next_number-self.ensures in (
      tells _ _ mid _ _ p.0 p.1 e.taken refl p.2 (Gives-from_Consumes _ _ _ p.3) p.4 refl refl e.bounded (omega arith, number) refl refl tt
          (λ more z f. (
            listing-end _ s mid.ending mid.taken mid.held (Some c.in-Some.cause) (sym c.in-Some.ensures) e.front more z f
                ∙ ap (λ k. stops (faulty (fault.Line k c.in-Some.cause))) (sym number),
            refl,
          )),
      refl,
    )

pub returns-in-Ok-None-item_in : goal.returns-in-Ok-None-item_in
returns-in-Ok-None-item_in g c =
    let e = rw c.in-Ok-Some.field-0-is at c.in-Ok-Some.ensures in
    let said = rw c.in-Ok-None-item_in.field-0-is at c.in-Ok-None-item_in.ensures in
    let p = e.given in
    let s = c.args.self.now.rules in
    let mid = reader_state (stream g.R.Source.left g.R.Source.ending c.fill.new.self) s in
    let rest = drop (c.in-Ok-Some.size + 1) mid.held in (
      skips _ _ mid _ p.0 p.1 e.taken refl p.2 p.3 p.4 (ap g.R.Source.left c.take.ensures.reader) (ap g.R.Source.ending c.take.ensures.reader)
          c.take.ensures.taken (take (c.in-Ok-Some.size + 1) mid.held) c.take.ensures.off (rw c.take.ensures.held e.front.4)
          (λ more z f. rw (c.take.ensures.taken, c.take.ensures.held)
          (listing-line _ s mid.ending mid.taken mid.held _ rest (Ok (None, c.item_in.new.self)) (ap (g.G.LineRules.rules.said s) (sym c.front.ensures.line) ∙ said) e.front.3 more z f)),
      c.take.ensures.taken ∙ ap (λ n. n + 1) e.taken,
      omega (arith, c.take.ensures.taken, e.front.2),
      refl,
    )

pub returns-in-Ok-Some-item_in : goal.returns-in-Ok-Some-item_in
returns-in-Ok-Some-item_in g c =
    let e = rw c.in-Ok-Some.field-0-is at c.in-Ok-Some.ensures in
    let said = rw c.in-Ok-Some-item_in.field-0-is at c.in-Ok-Some-item_in.ensures in
    let took = c.take-in-Ok-Some-item_in.ensures in
    let p = e.given in
    let s = c.args.self.now.rules in
    let mid = reader_state (stream g.R.Source.left g.R.Source.ending c.fill.new.self) s in
    let rest = drop (c.in-Ok-Some.size + 1) mid.held in
    let number = c.line_number-self.ensures ∙ took.number in (
      tells _ _ mid _ _ p.0 p.1 e.taken refl p.2 p.3 p.4 (ap g.R.Source.left took.reader) (ap g.R.Source.ending took.reader) e.bounded
          (omega (arith, took.taken), number ∙ sym took.taken, omega (arith, took.taken, e.front.2)) (omega (arith, took.taken)) (take (c.in-Ok-Some.size + 1) mid.held, took.off, rw took.held e.front.4) tt
          (λ more z f. rw (number, took.taken, took.held)
          (listing-line _ s mid.ending mid.taken mid.held _ rest (Ok (Some c.in-Ok-Some-item_in.item, c.item_in.new.self)) (ap (g.G.LineRules.rules.said s) (sym c.front.ensures.line) ∙ said) e.front.3 more z f)),
      refl,
    )

pub returns-in-Err-Memory : goal.returns-in-Err-Memory
returns-in-Err-Memory g c =
    let e = rw c.in-Ok-Some.field-0-is at c.in-Ok-Some.ensures in
    let same = rw c.in-Err-Memory.field-0-is at c.in-Err-Memory.ensures in
    let p = e.given in
    let s = c.args.self.now.rules in
    let mid = reader_state (stream g.R.Source.left g.R.Source.ending c.fill.new.self) s in (
      tells _ _ mid _ _ p.0 p.1 e.taken refl p.2 p.3 p.4 refl refl e.bounded (omega arith) refl refl (c.in-Ok-Some.size, e.front, ap (g.G.LineRules.rules.keeps s) (sym c.front.ensures.line) ∙ same.0)
          (λ more z f. ap (λ t. listing g.G.LineRules.rules t z mid.taken (mid.held ++ more)) same.1),
      refl,
    )

pub returns-in-Err-Fault : goal.returns-in-Err-Fault
returns-in-Err-Fault g c =
    let e = rw c.in-Ok-Some.field-0-is at c.in-Ok-Some.ensures in
    let said = rw c.in-Err-Fault.field-0-is at c.in-Err-Fault.ensures in
    let p = e.given in
    let s = c.args.self.now.rules in
    let mid = reader_state (stream g.R.Source.left g.R.Source.ending c.fill.new.self) s in
    let rest = drop (c.in-Ok-Some.size + 1) mid.held in
    let number = c.next_number-self-in-Err-Fault.ensures in (
      tells _ _ mid _ _ p.0 p.1 e.taken refl p.2 (Gives-from_Consumes _ _ _ p.3) p.4 refl refl e.bounded (omega arith, number) refl refl tt
          (λ more z f. (
            listing-line _ s mid.ending mid.taken mid.held _ rest (Err c.in-Err-Fault.cause) (ap (g.G.LineRules.rules.said s) (sym c.front.ensures.line) ∙ said.0) e.front.3 more z f
                ∙ ap (λ k. stops (faulty (fault.Line k c.in-Err-Fault.cause))) (sym number),
            ap (λ t. listing g.G.LineRules.rules t z mid.taken (mid.held ++ more)) said.1,
          )),
      refl,
    )
