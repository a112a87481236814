-- Whether an APDU has a spelling, as a test.
use Rattle.std.specs.Prelude.{◌^◌, ◌&&◌, ℕ, Bool, true, nat_lt, List, length, Option, Some, None}
use Rattle.mms_data.specs.computed.SpellableTest.{all_are_spellable, is_time, is_text}
use Rattle.pdu_core.specs.declared.goose.GoosePdu.{GoosePdu}

abbrev pub is_text_if : Option (List ℕ) → Bool
is_text_if None = true
is_text_if (Some t) = is_text t

abbrev pub are_numbers : ℕ → ℕ → ℕ → ℕ → ℕ → Bool
are_numbers live st_num sq_num conf_rev entries = nat_lt live (2 ^ 32) && (nat_lt st_num (2 ^ 32) && (nat_lt sq_num (2 ^ 32) && (nat_lt conf_rev (2 ^ 32) && nat_lt entries (2 ^ 32))))

abbrev pub are_texts : List ℕ → List ℕ → Option (List ℕ) → Bool
are_texts gocb_ref dat_set go_id = is_text gocb_ref && (is_text dat_set && is_text_if go_id)

abbrev pub is_goose_spellable : {A : Type 0} → GoosePdu A → Bool
is_goose_spellable p =
    are_texts p.gocb_ref p.dat_set p.go_id && (are_numbers p.live p.st_num p.sq_num p.conf_rev (length p.members) && (is_time p.t && all_are_spellable p.members 1))
