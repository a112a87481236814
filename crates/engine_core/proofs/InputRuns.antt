-- A run over a reader of items as one of the input that it reads; and what is read of an input, with something made of each item.
use Rattle.std.proofs.Common.{Option, Some, None, Ok, Err, ◌≡◌, ℕ, List, [], inl, inr, ap, ◌∙◌, refl}
use Rattle.std.proofs.lemmas.List.{map-append}
use Rattle.list_core.specs.declared.device.InputEnd.{InputEnd}
use Rattle.list_core.specs.declared.device.InputEnd.TheVariants.{Open}
use Rattle.list_core.specs.Device.{GivesOctets}
use Rattle.list_core.specs.Items.{Numbered, put_items}
use Rattle.list_core.specs.ReadItems.{AnswerOf}
use Rattle.list_core.proofs.Devices.{Consumes-none, Gives-from_Consumes}
use Rattle.engine_core.specs.EngineText.{Allowed}
use Rattle.engine_core.specs.declared.stopped.Stopped.{Stopped}
use Rattle.engine_core.specs.Input.{GaveThen, Input, IsRead, Reader, TellsNext}
use Rattle.engine_core.specs.MadeRun.{answer_made, each_made, made, with_each}
use Rattle.engine_core.specs.RunOver.{Leaves, LeavesSo}
use Rattle.engine_core.proofs.ReaderRuns.{run_as}

-- octets that were given of an input, of which that is so
abbrev pub GivenSo : Option (List ℕ) → Option (List ℕ) → (List ℕ → Type 0) → Type 0
GivenSo old new Is = (given : List ℕ) × GivesOctets old new given × Is given

-- nothing was given
pub none_given : (left : Option (List ℕ)) → GivesOctets left left []
none_given left = Gives-from_Consumes left left [] (Consumes-none left)

-- what a run over a reader leaves, it leaves of the input, if what the reader gave and then answered is read of that
pub input_run : {I X C F : Type 0} (reader : Reader I X C F) (input : Input X C F) (left : I → Option (List ℕ)) (told : I → InputEnd) (t : Allowed X C F) (start : I) (stopped : Stopped I F) (old new : Option (List ℕ)) → told start ≡ Open →
    ((items : List (ℕ × X)) (answer : AnswerOf X F) → GaveThen reader start stopped.reader items answer → GivenSo (left start) (left stopped.reader) (λ given. IsRead input (told stopped.reader) given items answer)) →
    LeavesSo (stopped.reader ≡ start) (GaveThen reader start stopped.reader) input.faults t stopped.ending stopped.fault old new →
    GivenSo (left start) (left stopped.reader) (λ given. Leaves input t stopped.ending stopped.fault (told stopped.reader) given old new)
input_run reader input left told t start stopped old new is reads (inl w) =
    ([], rw w.untouched (none_given (left start)), inl (record { write_fault = w.write_fault; by_none = w.by_none; untouched = (rw w.untouched is, refl); written = w.written }))
input_run reader input left told t start stopped old new is reads (inr run) =
    let r = reads run.items run.answer run.read in
    (r.0, r.1, inr (run_as input.faults stopped.ending stopped.fault old new t run r.2))

-- ---- what is made of each item

module _ {X F : Type 0} (make : X → X) where
  -- what an answer says of the input, it says of what is made of its items
  made_tells : (raw : AnswerOf X F) (onward : Numbered X F) → TellsNext raw onward → TellsNext (answer_made make raw) (with_each make onward)
  made_tells (Ok (Some e)) onward h = (with_each make h.0, ap (with_each make) h.1)
  made_tells (Ok None) onward h = ap (with_each make) h
  made_tells (Err (Some f)) onward h = ap (with_each make) h
  made_tells (Err None) onward h = tt

  -- what is made of items before others
  each_put : (items : List (ℕ × X)) (l : Numbered X F) → with_each make (put_items items l) ≡ put_items (each_made make items) (with_each make l)
  each_put items l = ap (λ es. record { items = es; stop = l.stop }) (map-append (λ (e : ℕ × X). (e.0, make e.1)) items l.items)

module _ {X C F : Type 0} (make : X → X) (input : Input X C F) where
  -- what is read of an input, with this made of each item
  pub read_made : (z : InputEnd) (read : List ℕ) (items : List (ℕ × X)) (answer : AnswerOf X F) → IsRead input z read items answer → IsRead (made make input) z read (each_made make items) (answer_made make answer)
  read_made z read items answer r = record {
    onward = with_each make r.onward;
    says = ap (with_each make) r.says ∙ each_put make items r.onward;
    tells = made_tells make answer r.onward r.tells;
    stands = record { said = items; are_made = refl; told = answer; is_made = refl; stands = r.stands };
  }
