-- Changes alone are all actions, expiries and switches, and more.
use Rattle.std.proofs.Common.{◌≡◌, ◌∙◌, Bool, true, false, true≢false, List, [], ◌∷◌, ◌++◌, length, ap, sym, refl}
use Rattle.std.specs.Prelude.{filter}
use Rattle.subscribe_core.specs.Changes.{changes, is_change}
use Rattle.subscribe_core.specs.declared.entry.Entry.{Entry}
use Rattle.subscribe_core.specs.declared.entry.Entry.TheVariants as says
use Rattle.subscribe_core.proofs.Runs.{entries_are_one}
use Rattle.exchange_engines.specs.ReplayText.{events_of, opening}
use Rattle.joint_laws.specs.ChangesLaws.{ChangesKeepTurns, is_turn}

turn_is_change : {A : Type 0} (x : Entry A) → is_change x ≡ false → is_turn x ≡ false
turn_is_change (says.Expired block) e = absurd (true≢false e)
turn_is_change (says.Switched block) e = absurd (true≢false e)
turn_is_change (says.Act block state sequence t members) e = absurd (true≢false e)
turn_is_change _ _ = refl

turns_stay : {A : Type 0} (entries : List (Entry A)) → filter is_turn (changes entries) ≡ filter is_turn entries
turns_stay [] = refl
turns_stay {A} (x ∷ entries) = go (is_change x) (is_turn x) refl refl (turns_stay entries)
  where
    go : (c t : Bool) → is_change x ≡ c → is_turn x ≡ t → filter is_turn (changes entries) ≡ filter is_turn entries → filter is_turn (changes (x ∷ entries)) ≡ filter is_turn (x ∷ entries)
    go true true c t rest = rw (c, t) (ap (λ (es : List (Entry A)). x ∷ es) rest)
    go true false c t rest = rw (c, t) rest
    go false b c t rest = let none = turn_is_change x c in rw (c, none) rest

pub changes_keep_turns : {A : Type 0} → ChangesKeepTurns A
changes_keep_turns simulates blocks few all apart told_few told_all before e =
    let events = opening simulates ++ events_of before in
    let same = entries_are_one blocks (events ++ e.1 ∷ []) (length events) (told_few.said before e) (told_all.said before e) apart (told_few.are_said before e) (told_all.are_said before e) in
    let is = told_few.told before e ∙ ap changes (same ∙ sym (told_all.told before e)) in
    record { turns = ap (filter is_turn) is ∙ turns_stay (all before e); changes = is }
