-- A part of a part.
use Rattle.std.proofs.Common.{◌≡◌, ◌+◌, ◌-◌, List, length, sym, ap, ap₂, ◌∙◌, arith}
use Rattle.std.specs.Prelude.{ℕ, slice_range}
use denote.Ref.{Bor}
use Rattle.ber_core.proofs.Regions.{region-inner, region-length}
use Rattle.mms_data.specs.declared.view.View.{View}
use Rattle.mms_data.specs.declared.view.View.TheVariants as variants
use Rattle.mms_data.specs.Place.{IsPart, ViewIsPart}

pub part_of_part : (a b c : Bor (List ℕ)) → IsPart a b → IsPart b c → IsPart a c
part_of_part a b c p q =
    let size : length b.now ≡ q.to - q.from = ap length q.octets ∙ region-length c.now q.from q.to q.within in
    let inner = region-inner c.now q.from q.to (q.from + p.from) (q.from + p.to) (omega arith) (omega (arith, p.order)) (omega (arith, p.within, size, q.order)) in
    let from : q.from + p.from - q.from ≡ p.from = omega arith in
    let to : q.from + p.to - q.from ≡ p.to = omega arith in
    record {
      from = q.from + p.from;
      to = q.from + p.to;
      order = omega (arith, p.order);
      within = omega (arith, p.within, size, q.order, q.within);
      block = p.block ∙ q.block;
      place = omega (arith, p.place, q.place);
      octets = p.octets ∙ ap (λ o. slice_range o p.from p.to) q.octets ∙ ap₂ (λ x y. slice_range (slice_range c.now q.from q.to) x y) (sym from) (sym to) ∙ inner;
    }

pub view_of_part : (v : View) (b c : Bor (List ℕ)) → ViewIsPart v b → IsPart b c → ViewIsPart v c
view_of_part (variants.Array m) b c p q = part_of_part m.octets b c p q
view_of_part (variants.Structure m) b c p q = part_of_part m.octets b c p q
view_of_part (variants.Boolean n) b c p q = tt
view_of_part (variants.Bits o) b c p q = part_of_part o.octets b c p q
view_of_part (variants.Integer n) b c p q = tt
view_of_part (variants.Unsigned n) b c p q = tt
view_of_part (variants.Floating o) b c p q = part_of_part o b c p q
view_of_part (variants.Octets o) b c p q = part_of_part o b c p q
view_of_part (variants.Visible o) b c p q = part_of_part o b c p q
view_of_part (variants.BinaryTime o) b c p q = part_of_part o b c p q
view_of_part (variants.MmsText o) b c p q = part_of_part o b c p q
view_of_part (variants.Utc t) b c p q = tt
