-- Whether an APDU of Sampled Values has a spelling, as a test.
use Rattle.std.specs.Prelude.{◌^◌, ◌&&◌, ℕ, Bool, true, nat_le, nat_lt, List, [], ◌∷◌, length, Option, Some, None}
use Rattle.mms_data.specs.computed.ContentsReading.{is_few_octets}
use Rattle.mms_data.specs.computed.SpellableTest.{is_time, is_text}
use Rattle.mms_data.specs.declared.time.UtcTime.{UtcTime}
use Rattle.pdu_core.specs.computed.SpellableTest.{is_text_if}
use Rattle.pdu_core.specs.declared.sampled.asdu.Asdu.{Asdu}
use Rattle.pdu_core.specs.declared.sampled.asdu.SvPdu.{SvPdu}

abbrev pub is_time_if : Option UtcTime → Bool
is_time_if None = true
is_time_if (Some t) = is_time t

abbrev pub is_fixed_if : ℕ → Option ℕ → Bool
is_fixed_if size None = true
is_fixed_if size (Some n) = nat_lt n (256 ^ size)

abbrev pub are_few_if : Option (List ℕ) → Bool
are_few_if None = true
are_few_if (Some o) = is_few_octets (length o)

abbrev pub is_asdu_spellable : {A : Type 0} → Asdu A → Bool
is_asdu_spellable a =
    is_text a.sv_id && (is_text_if a.dat_set && (nat_lt a.smp_cnt (256 ^ 2) && (nat_lt a.conf_rev (256 ^ 4) && (is_time_if a.refr_tm && (nat_lt a.smp_synch (256 ^ 1) && (is_fixed_if 2 a.smp_rate
    && (are_few_if a.smp_mod && are_few_if a.field_89)))))))

abbrev pub asdus_are_spellable : {A : Type 0} → List (Asdu A) → Bool
asdus_are_spellable [] = true
asdus_are_spellable (a ∷ more) = is_asdu_spellable a && asdus_are_spellable more

abbrev pub is_sv_spellable : {A : Type 0} → SvPdu A → Bool
is_sv_spellable p = nat_le 1 (length p.asdus) && (nat_le (length p.asdus) 65535 && asdus_are_spellable p.asdus)
