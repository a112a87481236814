use Rattle.std.proofs.Common.{◌≡◌, ◌-◌, ◌<◌, ◌≤◌, ◌⊎◌, ℕ, zero, suc, Option, Some, None, Ok, List, [], inl, inr, ◌++◌, ◌∙◌, length, ap, subst, sym, append_assoc, arith}
use Rattle.std.proofs.lemmas.List.{append-nil, length-append, length-drop, length-take, nil_from_length, take_at}
use Rattle.std.specs.Io.KnownBytes.{Consumes}
use Rattle.list_core.specs.Device.{GivesOctets, KeepsOrForgets, ending_after}
use Rattle.list_core.specs.declared.device.DeviceFault.{DeviceFault}
use Rattle.list_core.specs.declared.device.InputEnd.{InputEnd}
use Rattle.list_core.specs.declared.device.InputEnd.TheVariants.{Open, End, Failed}
use Rattle.list_core.specs.computed.PrivateOctets.{TakesTo}
use Rattle.list_core.specs.Reader.{IsWanting, OnlyWanting, held}
use Rattle.list_core.proofs.Devices.{Consumes-append, Gives-from_Consumes}
use Rattle.list_core.proofs.line_reader.LineReader.grow.Goals as goal

-- what was asked, where the ending stays
asked : (a b : Option (List ℕ)) (x y : InputEnd) (held given : List ℕ) → ((given ≡ []) × (b ≡ a)) ⊎ IsWanting held → y ≡ x → OnlyWanting a x held given b y
asked a b x y held given (inl p) e = inl (p.0, p.1, e)
asked a b x y held given (inr p) e = inr (p, inl e)

-- what is wanting was so before it was given anything
wanting_before : {X : Type 0} (held given now : List ℕ) → now ≡ held ++ given → IsWanting now → ((given ≡ []) × X) ⊎ IsWanting held → IsWanting held
wanting_before held given now e w (inl p) = subst IsWanting (e ∙ ap (λ l. held ++ l) p.0 ∙ append-nil held) w
wanting_before held given now e w (inr p) = p

-- what was asked, where a last read gave nothing to what was wanting
asked_last : (a b c : Option (List ℕ)) (x z : InputEnd) (held given now : List ℕ) → now ≡ held ++ given → IsWanting now → ((given ≡ []) × (b ≡ a)) ⊎ IsWanting held → OnlyWanting a x held given c z
asked_last a b c x z held given now e w k = inr (wanting_before held given now e w k, inr (subst IsWanting e w))

-- a last read that failed
Gives-failed : (a b c : Option (List ℕ)) (xs : List ℕ) → Consumes a b xs → KeepsOrForgets b c → GivesOctets a c xs
Gives-failed None b c xs p q = tt
Gives-failed (Some os) None c xs p q = absurd p
Gives-failed (Some os) (Some ps) None xs p q = (ps, p)
Gives-failed (Some os) (Some ps) (Some qs) xs p q = rw q p

takes : (w : InputEnd) (a b : Option (List ℕ)) (xs : List ℕ) → Consumes a b xs → TakesTo w a b xs
takes Open a b xs p = p
takes End a b xs p = p
takes Failed a b xs p = Gives-from_Consumes a b xs p

at_end : (w : InputEnd) (n : ℕ) → w ≡ ending_after {E = DeviceFault} (Ok n) → n ≤ 0 → w ≡ End
at_end w zero e h = e
at_end w (suc n) e h = absurd (omega (arith, h))

at_open : (w : InputEnd) (n : ℕ) → w ≡ ending_after {E = DeviceFault} (Ok n) → 0 < n → w ≡ Open
at_open w zero e h = absurd (omega (arith, h))
at_open w (suc n) e h = e

pub reads-preserved : goal.reads-preserved
reads-preserved g c =
    let before = c.reads.invariant in
    let t = before.given in
    let f = c.in-Ok.ensures.given in
    let now = held c.reads.self in
    let size : length now ≡ c.reads.self.end - c.reads.self.start = simp (length-take, length-drop) (omega arith) in record {
      within = rw f.3 (omega (arith, size, length-append now f.0));
      before = rw (f.3, take_at now f.0 _ size) c.in_default.ensures;
      given = (
        t.0 ++ f.0,
        f.3 ∙ ap (λ l. l ++ f.0) t.1 ∙ append_assoc (held c.args.self.now) t.0 f.0,
        inl (sym before.ending ∙ sym c.in-Open.ensures),
        Consumes-append _ _ _ _ _ t.3 f.2,
        inr (wanting_before _ _ _ t.1 (c.in_default.ensures, omega (arith, size)) t.4),
      );
      ending = at_open _ c.in-Ok.count c.in-Ok.ensures.ending c.if-count-gt0.true ∙ c.in-Open.ensures ∙ before.ending;
      taken = c.in-Ok.ensures.taken ∙ before.taken;
      number = c.in-Ok.ensures.number ∙ before.number;
    }

pub returns-in-Some-clause-given : goal.returns-in-Some-clause-given
returns-in-Some-clause-given g c =
    let before = c.reads.invariant in
    let t = before.given in (t.0, t.1, t.2, t.3, asked _ _ _ _ _ _ t.4 before.ending)

pub returns-then-scanned-gt-LONGEST_LINE-clause-given : goal.returns-then-scanned-gt-LONGEST_LINE-clause-given
returns-then-scanned-gt-LONGEST_LINE-clause-given g c =
    let before = c.reads.invariant in
    let t = before.given in (t.0, t.1, t.2, takes _ _ _ _ t.3, asked _ _ _ _ _ _ t.4 before.ending)

pub returns-in_default-ending-clause-given : goal.returns-in_default-ending-clause-given
returns-in_default-ending-clause-given g c =
    let before = c.reads.invariant in
    let t = before.given in (t.0, t.1, t.2, takes _ _ _ _ t.3, asked _ _ _ _ _ _ t.4 before.ending)

pub returns-in_default-refill-clause-given : goal.returns-in_default-refill-clause-given
returns-in_default-refill-clause-given g c =
    let before = c.reads.invariant in
    let t = before.given in
    let f = c.in-Ok.ensures.given in
    let none : f.0 ≡ [] = nil_from_length f.0 (omega (arith, f.1, c.if-count-gt0.false)) in
    let wanting : IsWanting (held c.reads.self) = (c.in_default.ensures, simp (length-take, length-drop) (omega arith)) in (
      t.0,
      f.3 ∙ ap (λ l. held c.reads.self ++ l) none ∙ append-nil (held c.reads.self) ∙ t.1,
      inl (sym before.ending ∙ sym c.in-Open.ensures),
      rw (at_end _ c.in-Ok.count c.in-Ok.ensures.ending c.if-count-gt0.false) (subst (Consumes _ _) (append-nil t.0) (Consumes-append _ _ _ _ _ t.3 (rw none at f.2))),
      asked_last _ _ _ _ _ _ _ _ t.1 wanting t.4,
    )

pub returns-in_default-refill-2-clause-given : goal.returns-in_default-refill-2-clause-given
returns-in_default-refill-2-clause-given g c =
    let before = c.reads.invariant in
    let t = before.given in
    let failed = c.in_default-refill.ensures in
    let wanting : IsWanting (held c.reads.self) = (c.in_default.ensures, simp (length-take, length-drop) (omega arith)) in (
      t.0,
      failed.given.1 ∙ t.1,
      inl (sym before.ending ∙ sym c.in-Open.ensures),
      rw failed.ending (Gives-failed _ _ _ _ t.3 failed.given.0),
      asked_last _ _ _ _ _ _ _ _ t.1 wanting t.4,
    )
