-- What is known of octets that are alike to a frame that is held.
use Rattle.std.specs.Prelude.{◌≡◌, ℕ, Bool, List, true}
use Rattle.repeat_core.specs.Noted.{noted_pdu}
use Rattle.repeat_core.specs.Standing.{Shows, SpellsNumber}
use Rattle.repeat_core.specs.WrittenAround.{IsWrittenAround}
use Rattle.repeat_core.specs.declared.again.Again.{Again}
use Rattle.repeat_core.specs.declared.notes.Notes.{Notes}

-- The frame that is noted stands in these octets, with these numbers, which their contents spell; and in its written form but for
-- these contents, where this is told.
pub record ShowsAgain (o : List ℕ) (n : Notes) (live sq_num : ℕ) (written : Bool) : Type 0 where
  pub shows : Shows o n live sq_num
  pub says_live : SpellsNumber live o n.live
  pub says_sq_num : SpellsNumber sq_num o n.sq_num
  pub around : written ≡ true → ∥ IsWrittenAround (noted_pdu o n 0 0) o n ∥₁

-- the same as it is handed out
abbrev pub IsAgain : {B : _} → Again B → List ℕ → Type 0
IsAgain a o = ShowsAgain o a.notes.now a.live a.sq_num a.written
