-- What a reader of a list gave and then answered is read of the list, no further than the line of the answer.
use Rattle.std.proofs.Common.{Option, Some, None, Ok, Err, ◌≡◌, ◌⊎◌, ℕ, ◌+◌, List, [], ◌∷◌, ◌++◌, inl, ap, ap₂, sym, ◌∙◌, subst, arith}
use Rattle.std.proofs.lemmas.List.{append-nil, append_assoc}
use Rattle.list_core.specs.declared.device.InputEnd.TheVariants.{Open}
use Rattle.list_core.specs.declared.line_rules.ItemFault.{ItemFault}
use Rattle.list_core.specs.Items.{Rules, Listing, listing}
use Rattle.list_core.specs.ItemReader.{ReaderState, Answer, AnswersItem, Tells, lines_before}
use Rattle.list_core.specs.computed.PrivateCalls.{TakesItems}
use Rattle.list_core.specs.ReadItems.{Gave}
use Rattle.list_core.specs.Reader.{IsWanting}
use Rattle.list_core.proofs.Readers.{CanFollow-none, off_after, starts_after}
use Rattle.list_core.proofs.ItemReaders.{TakesItems-push, TakesItems-none, gives_both, list_whole}
use Rattle.engine_core.specs.declared.stopped.Stopped.{Stopped}
use Rattle.engine_core.specs.EngineText.{Allowed}
use Rattle.engine_core.specs.Input.{IsRead, Reader, TellsNext}
use Rattle.engine_core.specs.RunOver.{Leaves, RunsOver}
use Rattle.engine_core.specs.Run.{AtLine, IsOfLine, list_faults, list_input}
use Rattle.engine_core.proofs.InputRuns.{GivenSo, input_run}
use Rattle.engine_core.proofs.Wanted.{wanted_behind, wanted_rest}

-- a reader of a list took these items; where its source has ended or failed, it was read so far for one line alone
pub record Took {S X C : Type 0} (r : Rules S X C) (a b : ReaderState S) (es : List (ℕ × X)) : Type 0 where
  pub took : TakesItems r a es b
  pub wanted : (b.ending ≡ Open) ⊎ IsWanting b.held

pub took_push : {S X C : Type 0} (r : Rules S X C) (a b c : ReaderState S) (es : List (ℕ × X)) (e : ℕ × X) → Took r a b es → AnswersItem r b (Ok (Some e)) c → Took r a c (es ++ e ∷ [])
took_push r a b c es e p q = record {
  took = TakesItems-push r a b c es e p.took q;
  wanted = wanted_behind c.ending q.rest q.lines.takes_off.0 c.held q.lines.takes_off.1 (wanted_rest b c q.given q.skipped q.rest p.wanted q.source.only_open q.source.asked q.lines.off);
}

pub took_none : {S X C : Type 0} (r : Rules S X C) (a : ReaderState S) → a.ending ≡ Open → Took {X = X} r a a []
took_none r a is = record { took = TakesItems-none r a; wanted = inl is }

-- an answer behind items, of a reader that began with no line and no octet held
module _ {S X C : Type 0} (r : Rules S X C) (a b c : ReaderState S) (es : List (ℕ × X)) (no_line : a.taken ≡ 0) (no_octet : a.held ≡ []) (p : Took r a b es) (answer : Answer X C) (q : AnswersItem r b answer c) where
  pub onward_same : listing r b.settled c.ending b.taken (b.held ++ q.given ++ []) ≡ listing r q.settled c.ending (lines_before answer c.taken) q.rest
  onward_same = q.skips [] c.ending (CanFollow-none c.ending) ∙ ap (listing r q.settled c.ending (lines_before answer c.taken)) (append-nil q.rest)

  -- its line, before which all items stand
  unfoldable pub answered_line : AtLine r a.settled c.ending (p.took.given ++ q.given) es
  answered_line = record {
    lines_before = lines_before answer c.taken;
    settled = q.settled;
    earlier = p.took.lines ++ q.skipped;
    onward = q.rest;
    whole = rw no_octet at (off_after a.held p.took.given p.took.lines b.held q.given q.skipped q.rest p.took.off q.lines.off);
    starts_line = starts_after b.ending c.ending p.took.lines b.held q.given q.skipped q.rest p.took.starts q.source.only_open q.lines.off q.lines.starts;
    at_most = q.lines.bounded;
    for_this_line = wanted_rest b c q.given q.skipped q.rest p.wanted q.source.only_open q.source.asked q.lines.off;
    says = rw (no_line, no_octet) at (list_whole r a b c es p.took q.given q.source.only_open _ onward_same);
  }

-- what an answer tells first of a list
first_told : {X C : Type 0} (answer : Answer X C) (onward rest : Listing X C) → Tells answer onward rest → TellsNext answer onward
first_told (Ok (Some e)) onward rest h = (rest, h)
first_told (Ok None) onward rest h = h.0
first_told (Err (Some f)) onward rest h = h.0
first_told (Err None) onward rest h = tt

-- an answer is about its line
of_line : {S X C : Type 0} (r : Rules S X C) (a b c : ReaderState S) (es : List (ℕ × X)) (no_line : a.taken ≡ 0) (no_octet : a.held ≡ []) (p : Took r a b es) (answer : Answer X C) (q : AnswersItem r b answer c) →
    IsOfLine c.ending (answered_line r a b c es no_line no_octet p answer q) answer
unfolding answered_line
of_line r a b c es no_line no_octet p (Ok (Some e)) q = let count = q.lines.counted in omega (arith, count.0, count.1)
of_line r a b c es no_line no_octet p (Ok None) q = tt
of_line r a b c es no_line no_octet p (Err (Some f)) q = q.lines.counted.1
of_line r a b c es no_line no_octet p (Err None) q = q.kept

module _ {S X C : Type 0} (r : Rules S X C) where
  -- behind those, the items that it gives one after another
  took_on : (a b c : ReaderState S) (es fs : List (ℕ × X)) → Took r a b es → Gave (AnswersItem r) b fs c → Took r a c (es ++ fs)
  unfolding Gave
  took_on a b c es [] p g = subst (λ x. Took r a x (es ++ [])) g (subst (Took r a b) (sym (append-nil es)) p)
  took_on a b c es (e ∷ fs) p g =
      subst (Took r a c) (append_assoc es (e ∷ []) fs) (took_on a g.0 c (es ++ e ∷ []) fs (took_push r a b g.0 es e p g.1) g.2)

  -- what it gave and then answered is read of the list
  pub list_read : (a b c : ReaderState S) (items : List (ℕ × X)) (answer : Answer X C) → a.ending ≡ Open → a.taken ≡ 0 → a.held ≡ [] → Gave (AnswersItem r) a items b → AnswersItem r b answer c →
      GivenSo a.left c.left (λ given. IsRead (list_input r a.settled) c.ending given items answer)
  list_read a b c items answer is no_line no_octet gave q =
      let p = took_on a a b [] items (took_none r a is) gave in
      let onward : Listing X C = listing r q.settled c.ending (lines_before answer c.taken) q.rest in
      let same = onward_same r a b c items no_line no_octet p answer q in (
        p.took.given ++ q.given,
        gives_both r a b c items answer p.took q,
        record {
          onward = onward;
          says = ap₂ (λ n h. listing r a.settled c.ending n (h ++ (p.took.given ++ q.given))) (sym no_line) (sym no_octet) ∙ list_whole r a b c items p.took q.given q.source.only_open onward same;
          tells = first_told answer onward _ (subst (λ l. Tells answer l (listing r c.settled c.ending c.taken (c.held ++ []))) same (q.reads [] c.ending (CanFollow-none c.ending)));
          stands = record { line = answered_line r a b c items no_line no_octet p answer q; is_of = of_line r a b c items no_line no_octet p answer q };
        },
      )

  -- the same of any reader whose answers are those of one of a list
  gave_state : {I : Type 0} (state : I → ReaderState S) (x y : I) (items : List (ℕ × X)) → Gave (λ a answer b. AnswersItem r (state a) answer (state b)) x items y → Gave (AnswersItem r) (state x) items (state y)
  unfolding Gave
  gave_state state x y [] same = ap state same
  gave_state state x y (e ∷ es) (next, q, g) = (state next, q, gave_state state next y es g)

  -- a reader whose answers are those of one of a list
  abbrev pub list_reader : {I : Type 0} → (I → ReaderState S) → (I → ℕ) → Reader I X C (ItemFault C)
  list_reader state number = record { answers = λ a answer b. AnswersItem r (state a) answer (state b); number = number; faults = list_faults }

  -- a run over it is one of the list
  pub list_run : {I : Type 0} (state : I → ReaderState S) (number : I → ℕ) (t : Allowed X C (ItemFault C)) (start : I) (stopped : Stopped I (ItemFault C)) (old new : Option (List ℕ)) → (state start).ending ≡ Open → (state start).taken ≡ 0 → (state start).held ≡ [] →
      RunsOver (list_reader state number) t start stopped old new →
      GivenSo (state start).left (state stopped.reader).left (λ given. Leaves (list_input r (state start).settled) t stopped.ending stopped.fault (state stopped.reader).ending given old new)
  list_run state number t start stopped old new is no_line no_octet run =
      input_run (list_reader state number) (list_input r (state start).settled) (λ x. (state x).left) (λ x. (state x).ending) t start stopped old new is
      (λ items answer g. list_read (state start) (state g.before) (state stopped.reader) items answer is no_line no_octet (gave_state state start g.before items g.gave) g.answered) run
