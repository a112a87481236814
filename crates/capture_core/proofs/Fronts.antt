-- What stands at the front of octets that are read part by part.
use Rattle.std.proofs.Common.{◌≡◌, ◌≢◌, ◌⊎◌, ℕ, ◌<◌, ◌≤◌, suc, inl, inr, List, [], ◌∷◌, ◌++◌, length, Option, Some, None, Ok, Err, ap, sym, ◌∙◌, refl, subst, arith, append_assoc}
use Rattle.std.proofs.lemmas.List.{append-nil, length-append}
use Rattle.std.specs.Io.KnownBytes.{Consumes}
use Rattle.list_core.specs.declared.device.InputEnd.{InputEnd}
use Rattle.list_core.specs.declared.device.InputEnd.TheVariants.{Open}
use Rattle.list_core.specs.Device.{GivesOctets, OnlyOpen}
use Rattle.list_core.specs.Lines.{Stop, unfinished}
use Rattle.list_core.proofs.Devices.{Consumes-append, Gives-append, Gives-from_Consumes}
use Rattle.list_core.proofs.Readers.{OnlyOpen-append, OnlyOpen-none}
use Rattle.capture_core.specs.Capture.{cut}
use Rattle.capture_core.specs.Asked.{OnlyWhile}
use Rattle.capture_core.specs.computed.Filling.{IsShort, IsWanted}
use Rattle.capture_core.specs.computed.OneRead.{Front, GivesFront, IsKept, IsKeptWhole, KeepsFront, ReadsFront, ReadsToKeep, StandsSo, Told}
use Rattle.capture_core.specs.declared.capture_fault.CaptureFault.{CaptureFault}
use Rattle.capture_core.proofs.Records.{gave_nothing, nothing_follows}

-- ---- fronts of octets

none_behind : (front rest : List ℕ) → [] ≡ front ++ rest → rest ≡ []
none_behind [] rest e = sym e
none_behind (x ∷ front) rest e = cc

some_no_none : (x : ℕ) (xs : List ℕ) → x ∷ xs ≡ [] → ⊥
some_no_none x xs e = cc

shorter : (front rest : List ℕ) → (rest ≡ [] → ⊥) → length front < length (front ++ rest)
shorter front [] n = absurd (n refl)
shorter front (x ∷ rest) n = simp length-append (omega arith)

no_longer : (front rest : List ℕ) → length front ≤ length (front ++ rest)
no_longer front rest = simp length-append (omega arith)

-- a front of octets ends in their first part or behind it
pub front_cases : (part others front rest : List ℕ) → part ++ others ≡ front ++ rest →
    ((tail : List ℕ) × (part ≡ front ++ tail) × (tail ≡ [] → ⊥)) ⊎ ((more : List ℕ) × (front ≡ part ++ more) × (others ≡ more ++ rest))
front_cases [] others front rest e = inr (front, refl, e)
front_cases (x ∷ part) others [] rest e = inl (x ∷ part, refl, λ n. some_no_none x part n)
front_cases (x ∷ part) others (y ∷ front) rest e =
    let head : x ≡ y = cc in
    let tail : part ++ others ≡ front ++ rest = cc in
    elim (front_cases part others front rest tail) [
      | inl h ↦ inl (h.0, ap (λ (k : ℕ). k ∷ part) head ∙ ap (λ l. y ∷ l) h.1, h.2)
      | inr h ↦ inr (h.0, ap (λ l. y ∷ l) h.1 ∙ ap (λ (k : ℕ). k ∷ (part ++ h.0)) (sym head), h.2)
    ]

-- ---- what was asked for

pub asked_none : (P : List ℕ → Type 0) (z : InputEnd) → OnlyWhile P [] z z
asked_none P z front rest e (inl n) = absurd (n (none_behind front rest e))
asked_none P z front rest e (inr n) = absurd (n refl)

-- octets that were all given are asked for while fewer are there
pub asked_whole : (P : List ℕ → Type 0) (given : List ℕ) (z w : InputEnd) → w ≡ z → ((front : List ℕ) → length front < length given → P front) → OnlyWhile P given z w
asked_whole P given z w same f front rest e (inl n) = f front (subst (λ l. length front < length l) (sym e) (shorter front rest n))
asked_whole P given z w same f front rest e (inr n) = absurd (n same)

pub asked_short : (P : List ℕ → Type 0) (given : List ℕ) (z w : InputEnd) → ((front : List ℕ) → length front ≤ length given → P front) → OnlyWhile P given z w
asked_short P given z w f front rest e c = f front (subst (λ l. length front ≤ length l) (sym e) (no_longer front rest))

-- octets of two reads
pub asked_both : (P : List ℕ → Type 0) (part others : List ℕ) (z m w : InputEnd) → m ≡ z → ((front : List ℕ) → length front < length part → P front) → OnlyWhile (λ l. P (part ++ l)) others m w → OnlyWhile P (part ++ others) z w
asked_both P part others z m w same f g front rest e c =
    elim (front_cases part others front rest e) [
      | inl h ↦ f front (subst (λ l. length front < length l) (sym h.1) (shorter front h.0 h.2))
      | inr h ↦ subst P (sym h.1) (g h.0 rest h.2 (rw same c))
    ]

-- ---- what stands at the front

gives_front : {X : Type 0} (told : Told X) (a b : Option (List ℕ)) (xs : List ℕ) → Consumes a b xs → GivesFront told a b xs
gives_front (Ok x) a b xs p = p
gives_front (Err why) a b xs p = Gives-from_Consumes a b xs p

gives_behind : {X : Type 0} (told : Told X) (a b c : Option (List ℕ)) (xs ys : List ℕ) → Consumes a b xs → GivesFront told b c ys → GivesFront told a c (xs ++ ys)
gives_behind (Ok x) a b c xs ys p q = Consumes-append a b c xs ys p q
gives_behind (Err why) a b c xs ys p q = Gives-append a b c xs ys p q

stands_same : {X : Type 0} (F G : InputEnd → List ℕ → Front X) (told : Told X) (held given : List ℕ) (w : InputEnd) → ((y : InputEnd) (rest : List ℕ) → G y (held ++ rest) ≡ F y (held ++ rest)) → StandsSo F (held ++ given) w told → StandsSo G (held ++ given) w told
stands_same F G (Ok x) held given w f s = λ more y c. ap (G y) (append_assoc held given more) ∙ f y (given ++ more) ∙ ap (F y) (sym (append_assoc held given more)) ∙ s more y c
stands_same F G (Err (Some stop)) held given w f s = λ more y c. ap (G y) (append_assoc held given more) ∙ f y (given ++ more) ∙ ap (F y) (sym (append_assoc held given more)) ∙ s more y c
stands_same F G (Err None) held given w f s = tt

-- the same stands at the front, behind what is held
pub front_same : {X : Type 0} (F G : InputEnd → List ℕ → Front X) (told : Told X) (held : List ℕ) (old new : Option (List ℕ)) (z w : InputEnd) → ((y : InputEnd) (rest : List ℕ) → G y (held ++ rest) ≡ F y (held ++ rest)) → ReadsFront F held old z told new w → ReadsFront G held old z told new w
front_same F G told held old new z w f r = record {
  given = r.given;
  took = r.took;
  only_open = r.only_open;
  asked = λ front rest e c. f Open front ∙ r.asked front rest e c;
  stands = stands_same F G told held r.given w f r.stands;
}

module _ {X : Type 0} (F : InputEnd → List ℕ → Front X) where
  -- nothing has to be read
  pub front_none : (held : List ℕ) (old : Option (List ℕ)) (z : InputEnd) (stop : Stop CaptureFault) → ((y : InputEnd) (more : List ℕ) → F y (held ++ more) ≡ Err stop) → ReadsFront F held old z (Err (Some stop)) old z
  front_none held old z stop f = record {
    given = [];
    took = gave_nothing old;
    only_open = OnlyOpen-none z;
    asked = asked_none _ z;
    stands = λ more y _. ap (λ (l : List ℕ). F y (l ++ more)) (append-nil held) ∙ f y more;
  }

  -- a part was read whole
  pub front_whole : (told : Told X) (held given : List ℕ) (old new : Option (List ℕ)) (z w : InputEnd) → Consumes old new given → OnlyOpen z given w → w ≡ z →
      ((front : List ℕ) → length front < length given → F Open (held ++ front) ≡ Err unfinished) → StandsSo F (held ++ given) w told → ReadsFront F held old z told new w
  front_whole told held given old new z w took o same f s = record {
    given = given;
    took = gives_front told old new given took;
    only_open = o;
    asked = asked_whole _ given z w same f;
    stands = s;
  }

  -- the source has ended before a part was whole
  pub front_short : (held : List ℕ) (old new : Option (List ℕ)) (z w : InputEnd) (size n : ℕ) (stop : Stop CaptureFault) → IsShort size old z new w →
      ((y : InputEnd) (front : List ℕ) → length front < size → F y (held ++ front) ≡ Err (cut y n)) → cut w n ≡ stop → ReadsFront F held old z (Err (Some stop)) new w
  front_short held old new z w size n stop (given, few, took, o, shut) f e = record {
    given = given;
    took = took;
    only_open = o;
    asked = asked_short _ given z w (λ front h. f Open front (omega (arith, h, few)));
    stands = λ more y c.
        let none = nothing_follows w more y shut c in
        ap (λ (l : List ℕ). F y ((held ++ given) ++ l)) none.0 ∙ ap (F y) (append-nil (held ++ given)) ∙ f y given few ∙ ap (λ v. Err (cut v n)) none.1 ∙ ap Err e;
  }

  -- the source has ended before a part was whole, of which nothing is held
  pub front_cut : (given : List ℕ) (old new : Option (List ℕ)) (z w : InputEnd) (n : ℕ) (stop : Stop CaptureFault) → GivesOctets old new given → OnlyOpen z given w → w ≢ Open →
      ((front : List ℕ) → length front < suc (length given) → F Open front ≡ Err unfinished) → ((y : InputEnd) → F y given ≡ Err (cut y n)) → cut w n ≡ stop → ReadsFront F [] old z (Err (Some stop)) new w
  front_cut given old new z w n stop took o shut f k e = record {
    given = given;
    took = took;
    only_open = o;
    asked = asked_short _ given z w (λ front h. f front (omega (arith, h)));
    stands = λ more y c.
        let none = nothing_follows w more y shut c in
        ap (λ (l : List ℕ). F y (given ++ l)) none.0 ∙ ap (F y) (append-nil given) ∙ k y ∙ ap (λ v. Err (cut v n)) none.1 ∙ ap Err e;
  }

  -- memory was wanted within a part
  pub front_wanted : (K : X → Type 0) (Wants : List ℕ → Type 0) (held : List ℕ) (old new : Option (List ℕ)) (z w : InputEnd) (size : ℕ) → IsWanted Wants size old z new w → 0 < length held →
      ((front : List ℕ) → length front < size → F Open (held ++ front) ≡ Err unfinished) → ((given more : List ℕ) (y : InputEnd) → Wants given → IsKept K (F y ((held ++ given) ++ more))) →
      ((given : List ℕ) → Wants given → (more : List ℕ) × IsKeptWhole K (F Open ((held ++ given) ++ more))) → ReadsToKeep K F held old z (Err None) new w
  front_wanted K Wants held old new z w size (given, few, took, o, same, is) some f k t = record {
    read = record {
      given = given;
      took = took;
      only_open = o;
      asked = asked_whole _ given z w same (λ front h. f front (omega (arith, h, few)));
      stands = tt;
    };
    keeps = record {
      some = simp length-append (omega (arith, some));
      stays = same;
      whatever = λ more y c. k given more y is;
      more = (t given is).0;
      whole = (t given is).1;
    };
  }

  stands_behind : (told : Told X) (held part given : List ℕ) (w : InputEnd) → StandsSo F ((held ++ part) ++ given) w told → StandsSo F (held ++ (part ++ given)) w told
  stands_behind told held part given w s = subst (λ l. StandsSo F l w told) (append_assoc held part given) s

  -- a part was read, and then the rest
  pub front_behind : (told : Told X) (held part : List ℕ) (old mid new : Option (List ℕ)) (z m w : InputEnd) → Consumes old mid part → OnlyOpen z part m → m ≡ z →
      ((front : List ℕ) → length front < length part → F Open (held ++ front) ≡ Err unfinished) → ReadsFront F (held ++ part) mid m told new w → ReadsFront F held old z told new w
  front_behind told held part old mid new z m w took o same f r = record {
    given = part ++ r.given;
    took = gives_behind told old mid new part r.given took r.took;
    only_open = OnlyOpen-append z m w part r.given o r.only_open;
    asked = asked_both _ part r.given z m w same f (λ front rest e c. ap (λ (l : List ℕ). F Open l) (sym (append_assoc held part front)) ∙ r.asked front rest e c);
    stands = stands_behind told held part r.given w r.stands;
  }

-- ---- where memory may be wanted

module _ {X : Type 0} (K : X → Type 0) (F : InputEnd → List ℕ → Front X) where
  -- memory was not wanted
  pub front_read : (held : List ℕ) (old new : Option (List ℕ)) (z w : InputEnd) (x : X) → ReadsFront F held old z (Ok x) new w → ReadsToKeep K F held old z (Ok x) new w
  front_read held old new z w x r = record { read = r; keeps = tt }

  pub front_stops : (held : List ℕ) (old new : Option (List ℕ)) (z w : InputEnd) (stop : Stop CaptureFault) → ReadsFront F held old z (Err (Some stop)) new w → ReadsToKeep K F held old z (Err (Some stop)) new w
  front_stops held old new z w stop r = record { read = r; keeps = tt }

kept_same : {X : Type 0} (K : X → Type 0) (F G : InputEnd → List ℕ → Front X) (told : Told X) (held given : List ℕ) (z w : InputEnd) → ((y : InputEnd) (rest : List ℕ) → G y (held ++ rest) ≡ F y (held ++ rest)) →
    KeepsFront K F (held ++ given) z told w → KeepsFront K G (held ++ given) z told w
kept_same K F G (Ok x) held given z w f k = tt
kept_same K F G (Err (Some stop)) held given z w f k = tt
kept_same K F G (Err None) held given z w f k =
    let same = λ (y : InputEnd) (more : List ℕ). ap (G y) (append_assoc held given more) ∙ f y (given ++ more) ∙ ap (F y) (sym (append_assoc held given more)) in
    record {
      some = k.some;
      stays = k.stays;
      whatever = λ more y c. subst (IsKept K) (sym (same y more)) (k.whatever more y c);
      more = k.more;
      whole = subst (IsKeptWhole K) (sym (same Open k.more)) k.whole;
    }

-- the same stands at the front, behind what is held
pub keep_same : {X : Type 0} (K : X → Type 0) (F G : InputEnd → List ℕ → Front X) (told : Told X) (held : List ℕ) (old new : Option (List ℕ)) (z w : InputEnd) → ((y : InputEnd) (rest : List ℕ) → G y (held ++ rest) ≡ F y (held ++ rest)) →
    ReadsToKeep K F held old z told new w → ReadsToKeep K G held old z told new w
unfolding front_same
keep_same K F G told held old new z w f r = record { read = front_same F G told held old new z w f r.read; keeps = kept_same K F G told held r.read.given z w f r.keeps }

-- a part was read, and then the rest
pub keep_behind : {X : Type 0} (K : X → Type 0) (F : InputEnd → List ℕ → Front X) (told : Told X) (held part : List ℕ) (old mid new : Option (List ℕ)) (z m w : InputEnd) → Consumes old mid part → OnlyOpen z part m → m ≡ z →
    ((front : List ℕ) → length front < length part → F Open (held ++ front) ≡ Err unfinished) → ReadsToKeep K F (held ++ part) mid m told new w → ReadsToKeep K F held old z told new w
unfolding front_behind
keep_behind K F told held part old mid new z m w took o same f r = record {
  read = front_behind F told held part old mid new z m w took o same f r.read;
  keeps = subst (λ (e : InputEnd). KeepsFront K F (held ++ (part ++ r.read.given)) e told w) same (subst (λ l. KeepsFront K F l m told w) (append_assoc held part r.read.given) r.keeps);
}
