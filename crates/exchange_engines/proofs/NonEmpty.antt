-- Texts that are written for something are not empty.
use Rattle.std.proofs.Common.{◌≡◌, ℕ, ◌+◌, Bool, true, false, List, [], ◌∷◌, ◌++◌, length, refl}
use Rattle.std.specs.Prelude.{if◌then◌else◌, codes}
use Rattle.std.specs.Fmt.{decimal}
use Rattle.std.specs.Str.{bytes_eq}
use Rattle.pdu_core.specs.declared.sampled.asdu.Asdu.{Asdu}
use Rattle.subscribe_core.specs.declared.watch.Seen.{Seen}
use Rattle.list_core.proofs.Emptiness.{back_nil, front_nil}
use Rattle.text_core.proofs.NonEmpty.{IsThere, ends, fault_there}
use Rattle.exchange_engines.specs.SampleLine.{Sample}
use Rattle.exchange_engines.specs.WatchText.{Telling, sample_at, sample_lines, samples_from, telling}
use Rattle.exchange_engines.specs.computed.WatchStep.{Tells}
use Rattle.object_core.specs.EventObject.{event_fields, fault_fields}
use Rattle.object_core.specs.Objects.{Field, object, object_line}
use Rattle.exchange_engines.specs.SampleObject.{missing_fields, seen_kind}
use Rattle.object_core.specs.declared.counted.Form.{Form}
use Rattle.object_core.specs.declared.counted.Form.TheVariants.{Text as Lines, Object}

-- an object has its end
pub object_there : (fields : List Field) → IsThere (object_line fields)
object_there fields = ends (object fields)

-- what is told of a sample and of a fault is not empty
pub each_told : (form : Form) (n moment : ℕ) → Tells (telling form n moment)
each_told Lines n moment = record { of_sample = λ s a. ends _; of_fault = λ f. fault_there n f }
each_told (Object counted) n moment = record {
  of_sample = λ s a. object_there (event_fields counted n moment (seen_kind a) ++ (codes "asdu", decimal s.position) ∷ (codes "smpCnt", decimal s.count) ∷ missing_fields a);
  of_fault = λ f. object_there (event_fields counted n moment (codes "fault") ++ fault_fields f);
}

-- no line is written only where there is no sample
pub no_sample : (how : Telling) → Tells how → (samples : List Sample) (answers : List Seen) → length answers ≡ length samples → sample_lines how samples answers ≡ [] → samples ≡ []
no_sample how tells [] answers same e = refl
no_sample how tells (s ∷ samples) [] same e = cc
no_sample how tells (s ∷ samples) (a ∷ answers) same e = absurd (tells.of_sample s a (front_nil (how.of_sample s a) _ e))

none_by : (is : Bool) (x y : Sample) → (if is then x ∷ [] else []) ≡ [] → (if is then y ∷ [] else []) ≡ []
none_by true x y e = cc
none_by false x y e = refl

-- where none of several ASDUs is of the stream, this one is not
pub none_among : {A : Type 0} (j k : ℕ) (id : List ℕ) (seen : List (Asdu A)) (a : Asdu A) (others : List (Asdu A)) → samples_from k id (seen ++ a ∷ others) ≡ [] → sample_at j id a ≡ []
none_among j k id [] a others e = none_by (bytes_eq a.sv_id id) (record { position = k; count = a.smp_cnt }) (record { position = j; count = a.smp_cnt }) (front_nil (sample_at k id a) _ e)
none_among j k id (x ∷ seen) a others e = none_among j (k + 1) id seen a others (back_nil (sample_at k id x) _ e)
