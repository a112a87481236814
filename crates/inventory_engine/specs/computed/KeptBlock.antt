-- What is kept of the control block of a frame: its key and its text, which hang on neither of the two numbers that change while a state is repeated.
use Rattle.std.specs.Prelude.{◌≡◌, ℕ, List, [], Option, Some, None}
use Rattle.std.specs.Coded.{coded_option}
use base.Stored.{Coded-set, coded_list, coded_ℕ}
use Rattle.frame_core.specs.declared.frame.Apdu.{Apdu}
use Rattle.frame_core.specs.declared.frame.Apdu.TheVariants as apdus
use Rattle.frame_core.specs.declared.frame.Frame.{Frame}
use Rattle.inventory_engine.specs.Configuration.{configuration_of}
use Rattle.inventory_engine.specs.Sightings.{Key, block_text}

-- a control block with this key and this text is that of an APDU in a frame with this APPID; one of Sampled Values has none
abbrev pub IsShownBy : {A : Type 0} → ℕ → Apdu A → Key → List ℕ → Type 0
IsShownBy app_id (apdus.Goose p) key text = (Some app_id ≡ key.0) × (p.gocb_ref ≡ key.1) × (block_text (configuration_of app_id p) ≡ text)
IsShownBy app_id (apdus.Sampled p) key text = ⊥

-- it is that of a frame
abbrev pub IsShown : {A : Type 0} → Frame A → Key → List ℕ → Type 0
IsShown f key text = IsShownBy f.app_id f.apdu key text

-- it is so in one way only
by_once : {A : Type 0} (app_id : ℕ) (a : Apdu A) (key : Key) (text : List ℕ) → IsProp (IsShownBy app_id a key text)
by_once app_id (apdus.Goose p) key text = hlevel (coded_ℕ, coded_list, coded_option, Coded-set)
by_once app_id (apdus.Sampled p) key text = hlevel

pub shown_once : {A : Type 0} (f : Frame A) (key : Key) (text : List ℕ) → IsProp (IsShown f key text)
shown_once f key text = by_once f.app_id f.apdu key text
