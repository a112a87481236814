use Rattle.std.proofs.Common.{◌≡◌, ℕ, ◌≤◌, ◌++◌, ◌∙◌, false, length, None, Ok, Err, ap, sym, arith}
use Rattle.std.proofs.lemmas.List.{length-append}
use Rattle.list_core.specs.declared.device.InputEnd.TheVariants.{Open}
use Rattle.list_core.specs.declared.device.InputEnd.{InputEnd}
use Rattle.capture_core.specs.Numbers.{number_at}
use Rattle.capture_core.specs.Capture.{cut}
use Rattle.capture_core.specs.Blocks.{begins, block_with, is_bad_length}
use Rattle.capture_core.specs.computed.OneRead.{order_of_magic, version_rest}
use Rattle.capture_core.proofs.BlocksRead.{at_least, section_bad, section_cut, section_none, section_short, section_whole}
use Rattle.capture_core.proofs.Fronts.{front_behind, front_none, front_short, front_whole}
use Rattle.capture_core.proofs.block.read_section.Goals as goal

pub returns-in_default : goal.returns-in_default
returns-in_default g c =
    let t = c.in-Ok.ensures in
    let head = c.args.head.now in
    let none : None ≡ order_of_magic t.0 = c.in_default.ensures ∙ ap order_of_magic (sym t.5) in
    front_behind _ _ head t.0 _ _ _ _ _ _ t.2 t.3 t.4 (λ front few. section_short c.args.number c.args.why head c.requires Open front (omega (arith, few, t.1)))
    (front_none _ (head ++ t.0) _ _ _ (λ y more. section_none c.args.number c.args.why head c.requires y t.0 more t.1 none ∙ ap Err (sym c.in_record.ensures)))

pub returns-then-is_bad_length : goal.returns-then-is_bad_length
returns-then-is_bad_length g c =
    let t = c.in-Ok.ensures in
    let head = c.args.head.now in
    let some = c.in-Some.ensures ∙ ap order_of_magic (sym t.5) in
    let bad = ap (is_bad_length 28) (sym c.long_at-total.ensures) ∙ sym c.is_bad_length.ensures ∙ c.if-is_bad_length.true in
    front_behind _ _ head t.0 _ _ _ _ _ _ t.2 t.3 t.4 (λ front few. section_short c.args.number c.args.why head c.requires Open front (omega (arith, few, t.1)))
    (front_none _ (head ++ t.0) _ _ _ (λ y more. section_bad c.args.number c.args.why head c.requires t.0 c.in-Some.order t.1 some y more bad ∙ ap Err (sym c.in_record-then-is_bad_length.ensures)))

pub returns-in-Ok-Ok : goal.returns-in-Ok-Ok
returns-in-Ok-Ok g c =
    let t = c.in-Ok.ensures in
    let head = c.args.head.now in
    let order = c.in-Some.order in
    let some = c.in-Some.ensures ∙ ap order_of_magic (sym t.5) in
    let total = c.long_at-total.ensures in
    let good : is_bad_length 28 (number_at order 4 head 4) ≡ false = ap (is_bad_length 28) (sym total) ∙ sym c.is_bad_length.ensures ∙ c.if-is_bad_length.false in
    let room : 28 ≤ number_at order 4 head 4 = at_least 28 (number_at order 4 head 4) good in
    let v = rw c.in-Ok-Ok.field-0-is at c.in-Ok-Ok.ensures in
    let size : c.long_at-total.result ≡ length ((head ++ t.0) ++ v.0) = simp length-append (omega (arith, c.requires, t.1, v.1, total, room)) in
    front_behind _ _ head t.0 _ _ _ _ _ _ t.2 t.3 t.4 (λ front few. section_short c.args.number c.args.why head c.requires Open front (omega (arith, few, t.1)))
    (front_whole _ _ (head ++ t.0) v.0 _ _ _ _ v.2 v.3 v.4
    (λ front few. section_cut c.args.number c.args.why head c.requires t.0 order t.1 some Open front good (omega (arith, few, v.1, total, room)))
    (λ more y f. section_whole c.args.number c.args.why head c.requires t.0 order t.1 some y v.0 more good room (omega (arith, v.1, total, room))
    ∙ ap (λ (k : ℕ). block_with c.args.number k (version_rest order c.args.why k v.0)) (sym total) ∙ ap (block_with c.args.number c.long_at-total.result) v.5 ∙ ap (λ (k : ℕ). Ok (begins order, k)) size))

pub returns-in-Ok-Err : goal.returns-in-Ok-Err
returns-in-Ok-Err g c =
    let t = c.in-Ok.ensures in
    let head = c.args.head.now in
    let order = c.in-Some.order in
    let some = c.in-Some.ensures ∙ ap order_of_magic (sym t.5) in
    let total = c.long_at-total.ensures in
    let good : is_bad_length 28 (number_at order 4 head 4) ≡ false = ap (is_bad_length 28) (sym total) ∙ sym c.is_bad_length.ensures ∙ c.if-is_bad_length.false in
    let room : 28 ≤ number_at order 4 head 4 = at_least 28 (number_at order 4 head 4) good in
    let v = rw c.in-Ok-Err.field-0-is at c.in-Ok-Err.ensures in
    front_behind _ _ head t.0 _ _ _ _ _ _ t.2 t.3 t.4 (λ front few. section_short c.args.number c.args.why head c.requires Open front (omega (arith, few, t.1)))
    (front_whole _ _ (head ++ t.0) v.0 _ _ _ _ v.2 v.3 v.4
    (λ front few. section_cut c.args.number c.args.why head c.requires t.0 order t.1 some Open front good (omega (arith, few, v.1, total, room)))
    (λ more y f. section_whole c.args.number c.args.why head c.requires t.0 order t.1 some y v.0 more good room (omega (arith, v.1, total, room))
    ∙ ap (λ (k : ℕ). block_with c.args.number k (version_rest order c.args.why k v.0)) (sym total) ∙ ap (block_with c.args.number c.long_at-total.result) v.5 ∙ ap Err (sym c.in_record-in-Ok-Err.ensures)))

pub returns-in-Err-read_version : goal.returns-in-Err-read_version
returns-in-Err-read_version g c =
    let t = c.in-Ok.ensures in
    let head = c.args.head.now in
    let order = c.in-Some.order in
    let some = c.in-Some.ensures ∙ ap order_of_magic (sym t.5) in
    let total = c.long_at-total.ensures in
    let good : is_bad_length 28 (number_at order 4 head 4) ≡ false = ap (is_bad_length 28) (sym total) ∙ sym c.is_bad_length.ensures ∙ c.if-is_bad_length.false in
    let room : 28 ≤ number_at order 4 head 4 = at_least 28 (number_at order 4 head 4) good in
    front_behind _ _ head t.0 _ _ _ _ _ _ t.2 t.3 t.4 (λ front few. section_short c.args.number c.args.why head c.requires Open front (omega (arith, few, t.1)))
    (front_short _ (head ++ t.0) _ _ _ _ _ c.args.number _ c.in-Err-read_version.ensures
    (λ y front few. section_cut c.args.number c.args.why head c.requires t.0 order t.1 some y front good (omega (arith, few, total, room)))
    (ap (λ (z : InputEnd). cut z c.args.number) (sym c.ending-in-Err-read_version.ensures) ∙ c.cut_in-in-Err-read_version.ensures.fault))
