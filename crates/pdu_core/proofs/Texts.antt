-- Octets of which reading finds that all are visible, or that one is not.
use Rattle.std.proofs.Common.{◌≡◌, List, ℕ, Ok, Err, refl, sym, ◌∙◌}
use Rattle.ber_core.specs.computed.ContentsReading.{all_visible_at, visible_at}
use Rattle.ber_core.specs.declared.fault.Fault.{Fault}
use Rattle.ber_core.proofs.ContentsLaws.{visible_found, visible_again}
use Rattle.ber_core.specs.Contents.{AreVisible}

pub text_is : (t : List ℕ) (u : Unit {0}) → all_visible_at 0 t ≡ Ok u → AreVisible t
text_is t u e = (visible_found 0 t t (rw e refl)).1

pub text_is_not : (t : List ℕ) (f : Fault) → all_visible_at 0 t ≡ Err f → AreVisible t → ⊥
text_is_not t f e s =
    let wrong : visible_at 0 t ≡ Err f = rw e refl in
    let no = sym wrong ∙ visible_again 0 t t (refl, s) in
    cc
