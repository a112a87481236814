-- ASDUs are no longer than the APDU that holds them.
use Rattle.std.proofs.Common.{◌≤◌, pos, length, arith}
use Rattle.std.proofs.lemmas.List.{length-append}
use Rattle.ber_core.specs.Written.{short_integer, written_element}
use Rattle.pdu_core.specs.SampledWritten.{sv_contents, written_asdus, written_sv}
use Rattle.pdu_core.specs.declared.sampled.asdu.SvPdu.{SvPdu}
use Rattle.mms_data.proofs.Sizes.{element_size}

pub asdus_within : {A : Type 0} (p : SvPdu A) → length (written_asdus p.asdus) ≤ length (sv_contents p)
asdus_within p =
    let front = written_element 0x80 (short_integer (pos (length p.asdus))) in
    omega (arith, length-append front (written_element 0xa2 (written_asdus p.asdus)), element_size 0xa2 (written_asdus p.asdus))

pub asdus_fit : {A : Type 0} (p : SvPdu A) → length (written_asdus p.asdus) ≤ length (written_sv p)
asdus_fit p = omega (arith, asdus_within p, element_size 0x60 (sv_contents p))
