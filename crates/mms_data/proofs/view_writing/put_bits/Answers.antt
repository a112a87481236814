use Rattle.std.proofs.Common.{◌∷◌, ◌+◌, ◌++◌, ℕ, List, [], length, ap, sym, ◌∙◌, arith, append_assoc, rules}
use Rattle.std.proofs.lemmas.List.{length-append}
use Rattle.mms_data.specs.Contents.{cleared}
use Rattle.ber_core.specs.Written.{short_length}
use Rattle.mms_data.proofs.Sizes.{bits_size, bits_parts}
use Rattle.mms_data.proofs.view_writing.put_bits.Goals as goal

pub returns-then-bits-gt4294967294-clause-enough : goal.returns-then-bits-gt4294967294-clause-enough
returns-then-bits-gt4294967294-clause-enough g c = λ few room.
    absurd (omega (arith, few, bits_size 132 c.args.bits.unused c.args.bits.octets.now, c.if-bits-gt4294967294.true))

pub returns-in_err-put_header-clause-enough : goal.returns-in_err-put_header-clause-enough
returns-in_err-put_header-clause-enough g c = λ few room.
    let bad = c.in_err-put_header.ensures.fits.1 (omega (arith, room, bits_size 132 c.args.bits.unused c.args.bits.octets.now)) in
    search rules

pub returns-then-remaining_capacity-size-clause-enough : goal.returns-then-remaining_capacity-size-clause-enough
returns-then-remaining_capacity-size-clause-enough g c = λ few room.
    let put = ap (λ (l : List ℕ). length l) c.in_ok-put_header.ensures.written ∙ length-append c.args.out.now.items (132 ∷ short_length (length c.args.bits.octets.now + 1)) in
    absurd (omega (arith, room, put, bits_size 132 c.args.bits.unused c.args.bits.octets.now, c.remaining_capacity.ensures, c.if-remaining_capacity-size.true))

pub returns-clause-written : goal.returns-clause-written
returns-clause-written g c =
    let unused = c.args.bits.unused in
    let o = c.args.bits.octets.now in
    let old = c.args.out.now.items in
    let header = 132 ∷ short_length (length o + 1) in
    c.put_cleared.ensures ∙ ap (λ (l : List ℕ). l ++ cleared unused o) (c.push.ensures.items ∙ ap (λ (l : List ℕ). l ++ unused ∷ []) c.in_ok-put_header.ensures.written)
    ∙ append_assoc (old ++ header) (unused ∷ []) (cleared unused o) ∙ append_assoc old header (unused ∷ cleared unused o)
    ∙ ap (λ (l : List ℕ). old ++ l) (sym (bits_parts 132 unused o))
