use Rattle.std.proofs.Common.{◌≡◌, ◌≤◌, ◌<◌, ◌+◌, ◌-◌, ℕ, zero, suc, List, [], ◌∷◌, length, refl, subst, arith}
use Rattle.std.specs.Prelude.{slice_index_or}
use Rattle.mms_data.specs.computed.Plain.{AnnouncesPlain}
use Rattle.mms_data.specs.declared.checking.TheConstants.{PLAIN}
use Rattle.mms_data.specs.declared.kinds.SimpleKind.{SimpleKind}
use Rattle.mms_data.specs.declared.kinds.SimpleKind.TheVariants as kinds
use Rattle.mms_data.proofs.checking.plain_of.Goals as goal

abbrev Row : Type 0
Row = SimpleKind × ℕ × ℕ × ℕ

-- what a row says of the identifier is so
abbrev Tells : ℕ → Row → Type 0
Tells id r = (r.1 + r.2 ≤ 256) × ((n first : ℕ) → r.1 ≤ n → n < r.1 + r.2 → first ≤ r.3 → (a : AnnouncesPlain id n first) × (a.kind ≡ r.0))

-- and what each says, of one identifier after the other
abbrev TellAll : ℕ → List Row → Type 0
TellAll id [] = Unit {0}
TellAll id (r ∷ rs) = Tells id r × TellAll (suc id) rs

tells : (id : ℕ) (rs : List Row) → TellAll id rs → (i : ℕ) → i < length rs → (other : Row) (m : ℕ) → m ≡ id + i → Tells m (slice_index_or rs i other)
tells id [] all i low other m is = absurd (omega (arith, low))
tells id (r ∷ rs) all zero low other m is = subst (λ (k : ℕ). Tells k r) (let same : id ≡ m = omega arith in same) all.0
tells id (r ∷ rs) all (suc i) low other m is = tells (suc id) rs all.1 i (omega (arith, low)) other m (omega arith)

none : (id : ℕ) → Tells id (kinds.VisibleString, 0, 0, 0)
none id = (omega arith, λ n first least most greatest. absurd (omega (arith, most)))

table : TellAll 132 PLAIN
table = (
  (omega arith, λ n first least most greatest. (record { kind = kinds.BitString; identifier = refl; some = omega (arith, least); few = omega (arith, most); plain = (least, greatest) }, refl)),
  (
    (omega arith, λ n first least most greatest. (record { kind = kinds.Integer; identifier = refl; some = least; few = omega (arith, most); plain = omega (arith, most) }, refl)),
    (
      (omega arith, λ n first least most greatest. (record { kind = kinds.Unsigned; identifier = refl; some = least; few = omega (arith, most); plain = (omega (arith, most), omega (arith, greatest)) }, refl)),
      (
        (omega arith, λ n first least most greatest. (record { kind = kinds.FloatingPoint; identifier = refl; some = least; few = omega (arith, most); plain = omega (arith, most) }, refl)),
        (
          none 136,
          (
            (omega arith, λ n first least most greatest. (record { kind = kinds.OctetString; identifier = refl; some = least; few = omega (arith, most); plain = tt }, refl)),
            (
              none 138,
              (
                none 139,
                (
                  none 140,
                  (
                    none 141,
                    (
                      none 142,
                      (
                        none 143,
                        (
                          (omega arith, λ n first least most greatest. (record { kind = kinds.MmsString; identifier = refl; some = least; few = omega (arith, most); plain = tt }, refl)),
                          (
                            (omega arith, λ n first least most greatest. (record { kind = kinds.UtcTime; identifier = refl; some = omega (arith, least); few = omega (arith, most); plain = omega (arith, least, most) }, refl)),
                            tt,
                          ),
                        ),
                      ),
                    ),
                  ),
                ),
              ),
            ),
          ),
        ),
      ),
    ),
  ),
)

pub returns-in-132-to-145-clause-fits : goal.returns-in-132-to-145-clause-fits
returns-in-132-to-145-clause-fits c = (tells 132 PLAIN table (c.args.identifier - 132) (omega arith) (kinds.Boolean, 0, 0, 0) c.args.identifier (omega arith)).0

pub returns-in-132-to-145-clause-announces : goal.returns-in-132-to-145-clause-announces
returns-in-132-to-145-clause-announces c = (tells 132 PLAIN table (c.args.identifier - 132) (omega arith) (kinds.Boolean, 0, 0, 0) c.args.identifier (omega arith)).1
