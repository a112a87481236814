use Rattle.std.proofs.Common.{◌≡◌, ℕ, ◌≤◌, ◌<◌, ◌++◌, ◌-◌, ◌∙◌, false, List, length, None, Ok, Err, ap, subst, sym, refl, arith, append_assoc}
use Rattle.std.proofs.lemmas.List.{length-append}
use Rattle.list_core.specs.declared.device.InputEnd.TheVariants.{Open}
use Rattle.list_core.specs.declared.device.InputEnd.{InputEnd}
use Rattle.capture_core.specs.Numbers.{number_at}
use Rattle.capture_core.specs.Capture.{cut}
use Rattle.capture_core.specs.Blocks.{begins, block_with, body_said, first_block, is_bad_length}
use Rattle.capture_core.specs.computed.OneRead.{IsFrameBlock, IsKept, IsKeptWhole}
use Rattle.capture_core.specs.computed.Sections.{TellsFrameOf, block_rest, settled}
use Rattle.capture_core.proofs.BlocksRead.{at_least, block_bad, block_cut, block_of_section, block_of_type, block_whole, said_block}
use Rattle.capture_core.proofs.FramesKept.{block_can_come, block_keeps}
use Rattle.capture_core.proofs.Fronts.{front_none, front_read, front_same, front_short, front_stops, front_wanted, front_whole}
use Rattle.capture_core.proofs.block.read_behind.Goals as goal

pub returns-in-Ok : goal.returns-in-Ok
returns-in-Ok g c =
    let type = sym c.long_at-kind.ensures ∙ c.if-kind-eq-SECTION_HEADER.true in
    (Ok (begins c.in-Ok.order), (begins c.in-Ok.order, refl, refl), front_read _ _ c.args.head.now _ _ _ _ _ (front_same _ _ _ c.args.head.now _ _ _ _ (λ y rest. block_of_section c.args.number (settled c.args.section) c.args.head.now c.requires y rest type) c.in-Ok.ensures))

pub returns-in-Err : goal.returns-in-Err
returns-in-Err g c =
    let type = sym c.long_at-kind.ensures ∙ c.if-kind-eq-SECTION_HEADER.true in
    (_, refl, front_stops _ _ c.args.head.now _ _ _ _ _ (front_same _ _ _ c.args.head.now _ _ _ _ (λ y rest. block_of_section c.args.number (settled c.args.section) c.args.head.now c.requires y rest type) c.in-Err.ensures))

pub returns-then-is_bad_length : goal.returns-then-is_bad_length
returns-then-is_bad_length g c =
    let s = settled c.args.section in
    let head = c.args.head.now in
    let bad = ap (is_bad_length 12) (sym c.long_at-total.ensures) ∙ sym c.is_bad_length.ensures ∙ c.if-is_bad_length.true in
    let by = λ (y : InputEnd) (rest : List ℕ). block_of_type c.args.number s head c.requires y rest (λ e. c.if-kind-eq-SECTION_HEADER.false (c.long_at-kind.ensures ∙ e)) in
    (_, refl, front_stops _ _ head _ _ _ _ _ (front_none _ head _ _ _ (λ y more. by y more ∙ block_bad c.args.number s.order 12 head (body_said s (number_at s.order 4 head 0)) c.requires y more bad ∙ ap Err (sym c.in_record.ensures))))

pub returns-in-Ok-Ok : goal.returns-in-Ok-Ok
returns-in-Ok-Ok g c =
    let s = settled c.args.section in
    let head = c.args.head.now in
    let said = body_said s (number_at s.order 4 head 0) in
    let total = c.long_at-total.ensures in
    let good : is_bad_length 12 (number_at s.order 4 head 4) ≡ false = ap (is_bad_length 12) (sym total) ∙ sym c.is_bad_length.ensures ∙ c.if-is_bad_length.false in
    let room : 12 ≤ number_at s.order 4 head 4 = at_least 12 (number_at s.order 4 head 4) good in
    let by = λ (y : InputEnd) (rest : List ℕ). block_of_type c.args.number s head c.requires y rest (λ e. c.if-kind-eq-SECTION_HEADER.false (c.long_at-kind.ensures ∙ e)) in
    let v = rw c.in-Ok-Ok.field-0-is at c.in-Ok-Ok.ensures in
    let told = ap (λ (k : ℕ). block_rest s.order k v.0 (body_said s (number_at s.order 4 head 0))) (sym total) ∙ ap (λ (k : ℕ). block_rest s.order c.long_at-total.result v.0 (body_said s k)) (sym c.long_at-kind.ensures) in
    let whole = λ (y : InputEnd) (more : List ℕ). ap (first_block y c.args.number s) (append_assoc head v.0 more) ∙ by y (v.0 ++ more)
    ∙ block_whole c.args.number s.order 12 head said c.requires y v.0 more good room (omega (arith, v.1, total, room))
    ∙ ap (λ (k : ℕ). block_with c.args.number k (block_rest s.order (number_at s.order 4 head 4) v.0 said)) (sym total) in
    let early = λ (front : List ℕ) (few : length front < length v.0). by Open front ∙ block_cut c.args.number s.order 12 head said c.requires Open front good (omega (arith, few, v.1, total, room)) in
    let b = said_block c.in-Ok-Ok.said _ v.5 in
    let size : c.long_at-total.result ≡ length (head ++ v.0) = simp length-append (omega (arith, c.requires, v.1, total, room)) in
    (Ok b.0, (b.0, refl, b.2), front_read _ _ head _ _ _ _ _ (front_whole _ _ head v.0 _ _ _ _ v.2 v.3 v.4 early (λ more y f. whole y more ∙ ap (block_with c.args.number c.long_at-total.result) (told ∙ b.1) ∙ ap (λ (k : ℕ). Ok (b.0, k)) size)))

pub returns-in-Ok-Err : goal.returns-in-Ok-Err
returns-in-Ok-Err g c =
    let s = settled c.args.section in
    let head = c.args.head.now in
    let said = body_said s (number_at s.order 4 head 0) in
    let total = c.long_at-total.ensures in
    let good : is_bad_length 12 (number_at s.order 4 head 4) ≡ false = ap (is_bad_length 12) (sym total) ∙ sym c.is_bad_length.ensures ∙ c.if-is_bad_length.false in
    let room : 12 ≤ number_at s.order 4 head 4 = at_least 12 (number_at s.order 4 head 4) good in
    let by = λ (y : InputEnd) (rest : List ℕ). block_of_type c.args.number s head c.requires y rest (λ e. c.if-kind-eq-SECTION_HEADER.false (c.long_at-kind.ensures ∙ e)) in
    let v = rw c.in-Ok-Err.field-0-is at c.in-Ok-Err.ensures in
    let told = ap (λ (k : ℕ). block_rest s.order k v.0 (body_said s (number_at s.order 4 head 0))) (sym total) ∙ ap (λ (k : ℕ). block_rest s.order c.long_at-total.result v.0 (body_said s k)) (sym c.long_at-kind.ensures) in
    let whole = λ (y : InputEnd) (more : List ℕ). ap (first_block y c.args.number s) (append_assoc head v.0 more) ∙ by y (v.0 ++ more)
    ∙ block_whole c.args.number s.order 12 head said c.requires y v.0 more good room (omega (arith, v.1, total, room))
    ∙ ap (λ (k : ℕ). block_with c.args.number k (block_rest s.order (number_at s.order 4 head 4) v.0 said)) (sym total) in
    let early = λ (front : List ℕ) (few : length front < length v.0). by Open front ∙ block_cut c.args.number s.order 12 head said c.requires Open front good (omega (arith, few, v.1, total, room)) in
    (_, refl, front_stops _ _ head _ _ _ _ _ (front_whole _ _ head v.0 _ _ _ _ v.2 v.3 v.4 early (λ more y f. whole y more ∙ ap (block_with c.args.number c.long_at-total.result) (told ∙ v.5) ∙ ap Err (sym c.in_record-in-Ok-Err.ensures))))

pub returns-in-Err-Short : goal.returns-in-Err-Short
returns-in-Err-Short g c =
    let s = settled c.args.section in
    let head = c.args.head.now in
    let said = body_said s (number_at s.order 4 head 0) in
    let total = c.long_at-total.ensures in
    let good : is_bad_length 12 (number_at s.order 4 head 4) ≡ false = ap (is_bad_length 12) (sym total) ∙ sym c.is_bad_length.ensures ∙ c.if-is_bad_length.false in
    let room : 12 ≤ number_at s.order 4 head 4 = at_least 12 (number_at s.order 4 head 4) good in
    let by = λ (y : InputEnd) (rest : List ℕ). block_of_type c.args.number s head c.requires y rest (λ e. c.if-kind-eq-SECTION_HEADER.false (c.long_at-kind.ensures ∙ e)) in
    let short = rw c.in-Err-Short.field-0-is at c.in-Err-Short.ensures in (
      _,
      refl,
      front_stops _ _ head _ _ _ _ _ (front_short _ head _ _ _ _ _ c.args.number _ short
          (λ y front few. by y front ∙ block_cut c.args.number s.order 12 head said c.requires y front good (omega (arith, few, total, room)))
          (ap (λ (z : InputEnd). cut z c.args.number) (sym c.ending.ensures) ∙ c.cut_in.ensures.fault)),
    )

pub returns-in-Err-Memory : goal.returns-in-Err-Memory
returns-in-Err-Memory g c =
    let s = settled c.args.section in
    let head = c.args.head.now in
    let said = body_said s (number_at s.order 4 head 0) in
    let total = c.long_at-total.ensures in
    let good : is_bad_length 12 (number_at s.order 4 head 4) ≡ false = ap (is_bad_length 12) (sym total) ∙ sym c.is_bad_length.ensures ∙ c.if-is_bad_length.false in
    let room : 12 ≤ number_at s.order 4 head 4 = at_least 12 (number_at s.order 4 head 4) good in
    let by = λ (y : InputEnd) (rest : List ℕ). block_of_type c.args.number s head c.requires y rest (λ e. c.if-kind-eq-SECTION_HEADER.false (c.long_at-kind.ensures ∙ e)) in
    let wants = rw c.in-Err-Memory.field-0-is at c.in-Err-Memory.ensures in
    let tells = λ (given : List ℕ) (is : TellsFrameOf s c.long_at-kind.result (c.long_at-total.result - 12) given).
    subst (λ (k : ℕ). TellsFrameOf s k (number_at s.order 4 head 4 - 12) given) c.long_at-kind.ensures (subst (λ (k : ℕ). TellsFrameOf s c.long_at-kind.result (k - 12) given) total is) in
    let at = λ (given more : List ℕ) (y : InputEnd). ap (first_block y c.args.number s) (append_assoc head given more) ∙ by y (given ++ more) in (
      Err None,
      refl,
      front_wanted _ _ _ head _ _ _ _ _ wants (omega (arith, c.requires)) (λ front few. by Open front ∙ block_cut c.args.number s.order 12 head said c.requires Open front good (omega (arith, few, total, room)))
          (λ given more y is. subst (IsKept IsFrameBlock) (sym (at given more y)) (block_keeps c.args.number s head c.requires y given more good room (tells given is)))
          (λ given is. let some = block_can_come c.args.number s head c.requires given good room (tells given is) in (some.0, subst (IsKeptWhole IsFrameBlock) (sym (at given some.0 Open)) some.1)),
    )
