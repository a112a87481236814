use Rattle.std.proofs.Common.{Ok, Err, Some, ◌≡◌, ◌++◌, length, take, refl, sym, ◌∙◌, arith}
use Rattle.std.proofs.lemmas.List.{length-append, length-take, take_at}
use borrow.Rule.Slice.PartMut.{post_of}
use Rattle.capture_core.specs.Capture.{moment_in_head}
use Rattle.capture_core.proofs.Records.{answered_cut, answered_long, answered_whole}
use Rattle.capture_core.proofs.record.read_octets.Goals as goal

pub returns-then-size-gt-LONGEST_RECORD-clause-record : goal.returns-then-size-gt-LONGEST_RECORD-clause-record
returns-then-size-gt-LONGEST_RECORD-clause-record g c =
    (Err c.in_record.result, refl, answered_long c.args.form _ c.args.head.now _ _ c.args.before c.requires.few c.requires.head (omega arith) (sym c.in_record.ensures))

pub returns-then-skip-clause-record : goal.returns-then-skip-clause-record
returns-then-skip-clause-record g c =
    let passed = c.if-skip.ensures in (
      Ok (Some (record { moment = moment_in_head c.args.form c.args.head.now; octets = passed.0 })),
      (record { moment = moment_in_head c.args.form c.args.head.now; octets = passed.0 }, refl, passed.1, λ p. omega (arith, p.0, p.1, c.then-size-eq0.either)),
      answered_whole c.args.form c.args.head.now passed.0 _ _ _ _ c.args.before c.requires.few c.requires.head (omega arith) (passed.1 ∙ c.long_at-size.ensures) passed.2 passed.3,
    )

pub returns-then-size-eq0-clause-record : goal.returns-then-size-eq0-clause-record
returns-then-size-eq0-clause-record g c =
    let passed = c.if-skip.ensures in
    (Err c.cut_in.result, refl, answered_cut c.args.form _ c.args.head.now passed.0 _ _ _ _ c.args.before passed.4 c.requires.few c.requires.head (omega arith) (omega (arith, passed.1)) passed.2 passed.3 (rw (← c.ending.ensures) c.cut_in.ensures.fault))

pub returns-in-Whole-clause-record : goal.returns-in-Whole-clause-record
returns-in-Whole-clause-record g c =
    let size = c.long_at-size.result in
    let octets = c.fill.new.into in
    let count : length octets ≡ size = omega (arith, simp length-take at c.fill.auto.into) in
    let front : take size (octets ++ post_of 0 size c.args.frame.now) ≡ octets = take_at octets _ size count in (
      Ok (Some (record { moment = moment_in_head c.args.form c.args.head.now; octets = octets })),
      ((omega arith, omega arith), simp length-append (omega (arith, count)), c.moment_in.ensures.short, rw (front, c.moment_in.ensures.value) refl),
      answered_whole c.args.form c.args.head.now octets _ _ _ _ c.args.before c.requires.few c.requires.head (omega arith) (count ∙ c.long_at-size.ensures) c.in-Whole.ensures.0 c.in-Whole.ensures.1,
    )

pub returns-in-Short-clause-record : goal.returns-in-Short-clause-record
returns-in-Short-clause-record g c =
    let filled = c.in-Short.ensures in
    let count : length c.fill.new.into ≡ c.long_at-size.result = omega (arith, simp length-take at c.fill.auto.into) in (
      Err c.cut_in-in-Short.result,
      refl,
      answered_cut c.args.form _ c.args.head.now (take c.in-Short.field-0 c.fill.new.into) _ _ _ _ c.args.before filled.3 c.requires.few c.requires.head (omega arith)
          (simp length-take (omega (arith, filled.0, count))) filled.1 filled.2 (rw (← c.ending-in-Short.ensures) c.cut_in-in-Short.ensures.fault),
    )
