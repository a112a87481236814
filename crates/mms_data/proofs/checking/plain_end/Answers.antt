use Rattle.std.proofs.Common.{◌≡◌, ◌+◌, ◌-◌, ◌∙◌, ◌<◌, ◌≤◌, ℕ, List, ◌∷◌, take, drop, get_or, length, arith, ap, sym, subst}
use Rattle.std.proofs.lemmas.List.{get_or-drop, get_or-take}
use Rattle.std.specs.Prelude.{slice_range}
use Rattle.ber_core.proofs.Regions.{region-length}
use Rattle.mms_data.specs.computed.Plain.{AnnouncesPlain}
use Rattle.mms_data.proofs.PlainMembers.{front_three, region_front}
use Rattle.mms_data.proofs.checking.plain_end.Goals as goal

-- an octet of a region
there : (octets : List ℕ) (at end i place : ℕ) → i < end - at → place ≡ at + i → get_or (slice_range octets at end) i 0 ≡ get_or octets place 0
there octets at end i place low is = get_or-take (end - at) (drop at octets) i 0 low ∙ get_or-drop at octets i 0 ∙ ap (λ (p : ℕ). get_or octets p 0) (sym is)

pub returns-then-next-end-clause-plain : goal.returns-then-next-end-clause-plain
returns-then-next-end-clause-plain c =
    let octets = c.args.octets.now in
    let at = c.args.at in
    let region = slice_range octets at c.args.end in
    let id = get_or octets at 0 in
    let size = get_or octets (at + 1) 0 in
    let first = get_or octets (at + 2) 0 in
    let row = c.in_ok-kind.field-0.now in
    let least : row.1 ≤ size = omega (arith, c.in_ok-kind.ensures.fits, c.if-size-least.true, c.type_inv.octets (at + 1)) in
    let most : size < row.1 + row.2 = omega (arith, c.in_ok-kind.ensures.fits, c.if-size-least.true, c.type_inv.octets (at + 1)) in
    let told = c.in_ok-kind.ensures.announces size first least most c.if-first-greatest.true in
    let long = region-length octets at c.args.end c.requires.inside in
    let parts = front_three region size (omega (arith, long)) told.0.some (omega (arith, long, c.if-next-end.true)) in
    let others = parts.0 in
    let span : at + 2 + size - at ≡ 2 + size = omega arith in
    let announced = subst (λ (n : ℕ). (a : AnnouncesPlain id n first) × (a.kind ≡ row.0)) (sym parts.2) told in (
      record {
        id = id;
        first = first;
        others = others;
        parts = region_front octets at (at + 2 + size) c.args.end c.if-next-end.true ∙ ap (λ (n : ℕ). take n region) span ∙ parts.1
            ∙ ap (λ (i : ℕ). i ∷ get_or region 1 0 ∷ get_or region 2 0 ∷ others) (there octets at c.args.end 0 at (omega arith) (omega arith))
            ∙ ap (λ (n : ℕ). id ∷ n ∷ get_or region 2 0 ∷ others) (there octets at c.args.end 1 (at + 1) (omega arith) (omega arith) ∙ sym parts.2)
            ∙ ap (λ (f : ℕ). id ∷ (length others + 1) ∷ f ∷ others) (there octets at c.args.end 2 (at + 2) (omega arith) (omega arith));
        announced = announced.0;
      },
      announced.1,
    )
