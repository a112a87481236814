-- A reader over another one, that makes something of each event, looks at what is made of the input beneath.
use Rattle.std.proofs.Common.{Some, None, Ok, Err, ◌≡◌, ◌+◌, ℕ, List, length, inl, inr, ap, sym, ◌∙◌, subst}
use Rattle.std.specs.Global.{Global}
use Rattle.std.proofs.lemmas.List.{length-map}
use Rattle.list_core.specs.declared.event.Event.{Event}
use Rattle.list_core.specs.ReadItems.{AnswerOf}
use Rattle.engine_core.specs.declared.ending.Ending.{Ending}
use Rattle.engine_core.specs.Input.{GaveThen, IsRead, Reader}
use Rattle.engine_core.specs.MadeRun.{answer_made, each_made, made}
use Rattle.engine_core.proofs.InputRuns.{read_made}
use Rattle.task_engine.specs.EventReader.{InputState, LeftOrReads, Look, LooksFrom, TellsStop, made_look}

-- what is made of an answer tells how the input stops only where that does
pub stop_before : {F : Type 0} (make : Event Global → Event Global) (raw : AnswerOf (Event Global) F) → TellsStop (answer_made make raw) → TellsStop raw
stop_before make (Ok None) h = tt
stop_before make (Ok (Some e)) h = h
stop_before make (Err (Some f)) h = tt
stop_before make (Err None) h = h

-- what was given is made of what the reader beneath gave
pub record Came {I J C F : Type 0} (below : Reader I (Event Global) C F) (under : J → I) (make : Event Global → Event Global) (start end : J) (items : List (ℕ × Event Global)) (answer : AnswerOf (Event Global) F) : Type 0 where
  pub said : List (ℕ × Event Global)
  pub raw : AnswerOf (Event Global) F
  pub gave : GaveThen below (under start) (under end) said raw
  pub are_made : items ≡ each_made make said
  pub is_made : answer ≡ answer_made make raw

module _ {I J C F : Type 0} (below : Reader I (Event Global) C F) (above : Reader J (Event Global) C F) (under : J → I) (make : Event Global → Event Global) (look : Look C F) (state : I → InputState) (start : J)
    (same : above.faults ≡ below.faults)
    (came : (end : J) (items : List (ℕ × Event Global)) (answer : AnswerOf (Event Global) F) → GaveThen above start end items answer → Came below under make start end items answer)
    (looks : LooksFrom below look state (under start)) where
  reads_beneath : (end : J) (ending : Ending) → LeftOrReads above start end ending → LeftOrReads below (under start) (under end) ending
  reads_beneath end ending (inl is) = inl (ap under is)
  reads_beneath end ending (inr r) =
      let c = came end r.items r.answer r.gave in
      inr (record { items = c.said; answer = c.raw; gave = c.gave; all = λ a. stop_before make c.raw (subst (λ (o : AnswerOf (Event Global) F). TellsStop o) c.is_made (r.all a)) })

  pub made_looks : LooksFrom above (made_look make look) (λ s. state (under s)) start
  made_looks = record {
    faults = same ∙ looks.faults;
    blames = looks.blames;
    none = (ap (each_made make) looks.none.0, looks.none.1);
    reaches = λ z read items answer s.
        subst (λ (n : ℕ). look.reaches z read n × look.reaches z read (n + 1)) (sym (ap length s.are_made ∙ length-map s.said (λ (e : ℕ × Event Global). (e.0, make e.1)))) (looks.reaches z read s.said s.told s.stands);
    is_open = looks.is_open;
    reads = λ end items answer gave.
        let c = came end items answer gave in
        let r = looks.reads (under end) c.said c.raw c.gave in
        let z = (state (under end)).source in (
          r.0,
          r.1,
          subst (λ (o : AnswerOf (Event Global) F). IsRead (made make look.input) z r.0 items o) (sym c.is_made)
              (subst (λ (es : List (ℕ × Event Global)). IsRead (made make look.input) z r.0 es (answer_made make c.raw)) (sym c.are_made) (read_made make look.input z r.0 c.said c.raw r.2)),
        );
    passes = λ end ending l. looks.passes (under end) ending (reads_beneath end ending l);
    links = λ end ending l. looks.links (under end) ending (reads_beneath end ending l);
  }
