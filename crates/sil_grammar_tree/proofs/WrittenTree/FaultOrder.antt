-- The first of two faults and of three: none where none is there, and the same in whichever order they are compared.
use Rattle.std.proofs.Common.{◌≡◌, ℕ, Option, Some, None, Bool, true, false, if◌then◌else◌, ◌==◌, ◌&&◌, ◌||◌, nat_lt, sym, refl, ap, ◌∙◌, arith}
use Rattle.std.proofs.lemmas.Bool.Decides.{nat_tests}
use Rattle.std.proofs.lemmas.Option.{none-some}
use Rattle.sil_grammar_tree.specs.declared.written_tree.fault.Fault.{Fault}
use Rattle.sil_grammar_tree.specs.WrittenTree.Faults.{comes_before, earlier, rank}

-- the order of places and ranks
abbrev pub before : ℕ → ℕ → ℕ → ℕ → Bool
before x r y s = nat_lt x y || ((x == y) && nat_lt r s)

before-trans : (x r y s z t : ℕ) → before x r y s ≡ true → before y s z t ≡ true → before x r z t ≡ true
before-trans x r y s z t = grind (arith, nat_tests)

pub not_before-trans : (x r y s z t : ℕ) → before x r y s ≡ false → before y s z t ≡ false → before x r z t ≡ false
not_before-trans x r y s z t = grind (arith, nat_tests)

pub before_and_not : (x r y s z t : ℕ) → before x r y s ≡ true → before x r z t ≡ false → before y s z t ≡ false
before_and_not x r y s z t = grind (arith, nat_tests)

pub earlier-none : (a : Option Fault) → earlier a None ≡ a
unfolding earlier
earlier-none None = refl
earlier-none (Some a) = refl

three : (a b c : Fault) (t u w : Bool) → comes_before b a ≡ t → comes_before c b ≡ u → comes_before c a ≡ w
    → earlier (earlier (Some a) (Some b)) (Some c) ≡ earlier (Some a) (earlier (Some b) (Some c))
unfolding earlier
three a b c true true true e f g = rw (e, f, g) refl
three a b c true true false e f g = absurd (cc (sym g ∙ before-trans c.place.offset (rank c.kind) b.place.offset (rank b.kind) a.place.offset (rank a.kind) f e))
three a b c true false w e f g = rw (e, f) (rw e refl)
three a b c false true w e f g = rw (e, f) refl
three a b c false false false e f g = rw (e, f, g) (rw e refl)
three a b c false false true e f g = absurd (cc (sym g ∙ not_before-trans c.place.offset (rank c.kind) b.place.offset (rank b.kind) a.place.offset (rank a.kind) f e))

pub earlier-assoc : (a b c : Option Fault) → earlier (earlier a b) c ≡ earlier a (earlier b c)
unfolding earlier
earlier-assoc None b c = refl
earlier-assoc (Some a) None c = refl
earlier-assoc (Some a) (Some b) None = earlier-none (earlier (Some a) (Some b))
earlier-assoc (Some a) (Some b) (Some c) = three a b c _ _ _ refl refl refl

-- neither of two is there
pub neither : (a b : Option Fault) → a ≡ None → b ≡ None → earlier a b ≡ None
unfolding earlier
neither a b e f = ap (λ first. earlier first b) e ∙ f

chosen : (t : Bool) (a b : Fault) → (if t then Some b else Some a) ≡ None → Some a ≡ None
chosen true a b e = cc
chosen false a b e = e

pub no_first : (a b : Option Fault) → earlier a b ≡ None → a ≡ None
unfolding earlier
no_first None b e = refl
no_first (Some a) None e = e
no_first (Some a) (Some b) e = chosen (comes_before b a) a b e

pub no_second : (a b : Option Fault) → earlier a b ≡ None → b ≡ None
unfolding earlier
no_second None b e = e
no_second (Some a) None e = refl
no_second (Some a) (Some b) e = absurd (none-some a (sym (chosen (comes_before b a) a b e)))
