use Rattle.std.proofs.Common.{◌≡◌, ◌<◌, ◌≤◌, ℕ, List, [], ◌∷◌, ◌++◌, length, ap, refl, sym, append_assoc, arith}
use Rattle.std.specs.Prelude.{codes}
use Rattle.hex.specs.Hex.{encode_lower}
use Rattle.text_core.proofs.Fronts.{appended, then_appended}
use Rattle.frame_engines.specs.FrameObject.{trailer_value}
use Rattle.frame_engines.proofs.texts.frame_object.put_frame_object_end.Goals as goal

trailer_text : (octets : List ℕ) → 1 ≤ length octets → (codes ",\"trailer\":\"" ++ encode_lower octets) ++ codes "\"}\n" ≡ codes ",\"trailer\":" ++ trailer_value octets ++ codes "}\n"
trailer_text [] some = absurd (omega arith)
trailer_text (x ∷ xs) some = ap (λ (l : List ℕ). codes ",\"trailer\":\"" ++ l) (sym (append_assoc (encode_lower (x ∷ xs)) (codes "\"") (codes "}\n")))

pub returns-in_ok-put_octets-in_default : goal.returns-in_ok-put_octets-in_default
returns-in_ok-put_octets-in_default g c =
    let octets = c.args.trailer.now in
    then_appended c.extend_from_slice-in_default.result c.args.out.now.items c.put_octets.new.out.items c.extend_from_slice-in_default.new.self.items
    (codes ",\"trailer\":\"" ++ encode_lower octets) (codes "\"}\n") _ c.in_ok-put_octets-in_default.ensures
    (appended c.extend_from_slice-in_default.result c.put_octets.new.out.items c.extend_from_slice-in_default.new.self.items (codes "\"}\n") (codes "\"}\n") c.extend_from_slice-in_default.ensures.items refl)
    (trailer_text octets c.in_default.len_at_least)

null_text : (octets : List ℕ) → length octets < 1 → codes ",\"trailer\":null}\n" ≡ codes ",\"trailer\":" ++ trailer_value octets ++ codes "}\n"
null_text [] none = refl
null_text (x ∷ xs) none = absurd (omega arith)

pub returns-in-empty : goal.returns-in-empty
returns-in-empty g c =
    appended c.extend_from_slice.result c.args.out.now.items c.extend_from_slice.new.self.items (codes ",\"trailer\":null}\n") _ c.extend_from_slice.ensures.items (null_text c.args.trailer.now c.in-empty.len_below)
