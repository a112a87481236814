-- What is kept of a control block is so of each frame that repeats the one it was made of.
use Rattle.std.proofs.Common.{◌≡◌, ℕ, [], ◌∷◌, List, ap, ap₂, refl, sym, subst, ◌∙◌}
use Rattle.frame_core.specs.declared.frame.Apdu.{Apdu}
use Rattle.frame_core.specs.declared.frame.Apdu.TheVariants as apdus
use Rattle.frame_core.specs.declared.frame.Frame.{Frame}
use Rattle.repeat_core.specs.Beside.{IsNumbered}
use Rattle.repeat_core.specs.Numbered.{apdu_numbered, unnumbered}
use Rattle.known_core.specs.computed.Held.{IsAt, held, position_of}
use Rattle.known_core.specs.declared.runs.Place.{Place}
use Rattle.std.proofs.lemmas.Cmp.{tied_itself}
use Rattle.std.proofs.lemmas.Slice.Eq.{bytes_eq-Decides}
use Rattle.std.specs.Prelude.{slice_index_or, length, ◌<◌}
use Rattle.std.specs.declared.cmp.Ordering.TheVariants.{Equal}
use Rattle.inventory_engine.specs.declared.known.Known.{Known}
use Rattle.inventory_engine.specs.BlocksText.{Telling}
use Rattle.inventory_engine.specs.Configuration.{configuration_of}
use Rattle.inventory_engine.specs.Sightings.{Key, Sighting, block_sighting, key_of, sightings_with}
use Rattle.inventory_engine.specs.computed.BlocksStep.{AppendsLines}
use Rattle.inventory_engine.specs.computed.KeptBlock.{IsShown, IsShownBy}
use Rattle.inventory_engine.specs.computed.KnownTexts.{Inventory, by_key, key_cmp, known_key, known_text}
use Rattle.inventory_engine.proofs.Appending.{said_same}
use Rattle.inventory_engine.proofs.KeyLemmas.{key_total}

with_numbered : {A : Type 0} (app_id live sq_num : ℕ) (a : Apdu A) (key : Key) (text : List ℕ) → IsShownBy app_id a key text → IsShownBy app_id (apdu_numbered live sq_num a) key text
with_numbered app_id live sq_num (apdus.Goose p) key text is = is
with_numbered app_id live sq_num (apdus.Sampled p) key text is = is

pub shown_unnumbered : {A : Type 0} (f : Frame A) (key : Key) (text : List ℕ) → IsShown f key text → IsShown (unnumbered f) key text
shown_unnumbered f key text is = with_numbered f.app_id 0 0 f.apdu key text is

-- the sighting of a frame of GOOSE of which this is kept
pub record SeenSo (app_id : ℕ) (a : Apdu (Unit {0})) (key : Key) (text : List ℕ) : Type 0 where
  pub sighting : Sighting
  pub seen : sightings_with app_id a ≡ sighting ∷ []
  pub key_is : key_of sighting ≡ key
  pub text_is : sighting.text ≡ text

pub seen_so : (app_id : ℕ) (a : Apdu (Unit {0})) (key : Key) (text : List ℕ) → IsShownBy app_id (apdu_numbered 0 0 a) key text → SeenSo app_id a key text
seen_so app_id (apdus.Goose p) key text (first, second, is) = record { sighting = block_sighting (configuration_of app_id p); seen = refl; key_is = ap₂ (λ x y. (x, y)) first second; text_is = is }
seen_so app_id (apdus.Sampled p) key text none = absurd none

-- one at a place has the key and the text of a sighting
pub said_there : {A : Type 0} (how : Telling) (s : Sighting) (known : Inventory A) (at : ℕ) (one block : Known A) (line : List ℕ) → at < length (held known) → ((d : Known A) → one ≡ slice_index_or (held known) at d)
    → known_key one ≡ known_key block → known_text one ≡ known_text block → key_of s ≡ known_key block → s.text ≡ known_text block → AppendsLines how (s ∷ []) known known line line
said_there how s known at one block line within is key text key_is text_is =
    let same : known_key one ≡ key_of s = key ∙ sym key_is in
    said_same how s known at one line
    (record { within = within; is = λ d. ap (by_key (key_of s)) (sym (is d)) ∙ ap (λ (k : Key). key_cmp k (key_of s)) same ∙ tied_itself key_total (key_of s) })
    ((bytes_eq-Decides _ _).1 (ap known_text (sym (is one)) ∙ text ∙ sym text_is))
