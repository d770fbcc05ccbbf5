-- Of some faults the first, as the replay finds it one by one.
use Rattle.std.proofs.Common.{◌≡◌, List, [], ◌∷◌, ◌++◌, Option, Some, None, Bool, true, false, if◌then◌else◌, sym, refl, ap, subst, ◌∙◌}
use Rattle.std.specs.List.{AllByRecursion}
use Rattle.std.specs.Option.{option_to_list}
use Rattle.std.proofs.lemmas.Option.{none-some, same_Some}
use Rattle.sil_grammar_tree.specs.declared.written_tree.fault.Fault.{Fault}
use Rattle.sil_grammar_tree.specs.WrittenTree.Faults.{comes_before, earlier, rank}
use Rattle.sil_grammar_tree.proofs.WrittenTree.FaultOrder.{before_and_not, earlier-assoc, no_first, not_before-trans}
use Rattle.sil_grammar.specs.SpelledPartsLaws.Reading.{IsFirstOf}
use Rattle.sil_grammar.specs.SpelledPartsLaws.Reading.IsFirstOf.{here, later}

abbrev pub first_of : List Fault → Option Fault
first_of [] = None
first_of (f ∷ fs) = earlier (Some f) (first_of fs)

pub first-append : (fs gs : List Fault) → first_of (fs ++ gs) ≡ earlier (first_of fs) (first_of gs)
unfolding earlier
first-append [] gs = refl
first-append (f ∷ fs) gs = ap (earlier (Some f)) (first-append fs gs) ∙ sym (earlier-assoc (Some f) (first_of fs) (first_of gs))

pub first-option : (o : Option Fault) → first_of (option_to_list o) ≡ o
unfolding earlier
first-option None = refl
first-option (Some f) = refl

pub first-two : (a b : Option Fault) → first_of (option_to_list a ++ option_to_list b) ≡ earlier a b
first-two a b = first-append (option_to_list a) (option_to_list b) ∙ ap (λ o. earlier o (first_of (option_to_list b))) (first-option a) ∙ ap (earlier a) (first-option b)

first-after : (fs : List Fault) (a b : Option Fault) → first_of fs ≡ a → first_of (fs ++ option_to_list b) ≡ earlier a b
first-after fs a b e = first-append fs (option_to_list b) ∙ ap (λ o. earlier o (first_of (option_to_list b))) e ∙ ap (earlier a) (first-option b)

pub first-four : (a b c d : Option Fault) → first_of (option_to_list a ++ option_to_list b ++ option_to_list c ++ option_to_list d) ≡ earlier a (earlier b (earlier c d))
first-four a b c d =
    first-after _ (earlier (earlier a b) c) d (first-after _ (earlier a b) c (first-two a b))
    ∙ earlier-assoc (earlier a b) c d ∙ earlier-assoc a b (earlier c d)

-- no fault is first where there is none

pub none_first : (fs : List Fault) → first_of fs ≡ None → fs ≡ []
none_first [] e = refl
none_first (f ∷ fs) e = absurd (none-some f (sym (no_first (Some f) (first_of fs) e)))

-- the first that is found is the first of them

-- what the first of some faults doesn't come before, none of them does
others_behind : (f g : Fault) → comes_before g f ≡ false → (others : List Fault) → AllByRecursion (λ other. comes_before other g ≡ false) others
    → AllByRecursion (λ other. comes_before other f ≡ false) others
others_behind f g e [] all = tt
others_behind f g e (h ∷ others) all = (not_before-trans h.place.offset (rank h.kind) g.place.offset (rank g.kind) f.place.offset (rank f.kind) all.0 e, others_behind f g e others all.1)

none_before : (f g : Fault) {fs : List Fault} → comes_before g f ≡ false → IsFirstOf fs g → AllByRecursion (λ other. comes_before other f ≡ false) fs
none_before f g e (here {others = others} _ all) = (e, others_behind f g e others all)
none_before f g e (later h less more) =
    (before_and_not g.place.offset (rank g.kind) h.place.offset (rank h.kind) f.place.offset (rank f.kind) less e, none_before f g e more)

chosen_same : (t : Bool) (f g r : Fault) (fs : List Fault) → comes_before g f ≡ t → (if t then Some g else Some f) ≡ Some r → IsFirstOf fs g → IsFirstOf (f ∷ fs) r
chosen_same true f g r fs e is first = subst (IsFirstOf (f ∷ fs)) (same_Some _ _ is) (later f e first)
chosen_same false f g r fs e is first = subst (IsFirstOf (f ∷ fs)) (same_Some _ _ is) (here f (none_before f g e first))

first_by : (g : Fault) (fs : List Fault) (f : Fault) (rest : Option Fault) → first_of fs ≡ rest → earlier (Some g) rest ≡ Some f
    → ((h : Fault) → first_of fs ≡ Some h → IsFirstOf fs h) → IsFirstOf (g ∷ fs) f
unfolding earlier
first_by g fs f None none e more = subst (λ (hs : List Fault). IsFirstOf (g ∷ hs) f) (sym (none_first fs none)) (subst (IsFirstOf (g ∷ [])) (same_Some _ _ e) (here g tt))
first_by g fs f (Some h) some e more = chosen_same (comes_before h g) g h f fs refl e (more h some)

pub is_first : (fs : List Fault) (f : Fault) → first_of fs ≡ Some f → IsFirstOf fs f
is_first [] f e = absurd (cc e)
is_first (g ∷ fs) f e = first_by g fs f (first_of fs) refl e (is_first fs)

kept : (f g : Fault) → comes_before g f ≡ false → earlier (Some f) (Some g) ≡ Some f
unfolding earlier
kept f g e = rw e refl

gives_way : (f g : Fault) → comes_before g f ≡ true → earlier (Some f) (Some g) ≡ Some g
unfolding earlier
gives_way f g e = rw e refl

-- a fault that none of the others comes before
stays : (f : Fault) (others : List Fault) → AllByRecursion (λ other. comes_before other f ≡ false) others → earlier (Some f) (first_of others) ≡ Some f
unfolding earlier
stays f [] all = refl
stays f (g ∷ others) all = sym (earlier-assoc (Some f) (Some g) (first_of others)) ∙ ap (λ o. earlier o (first_of others)) (kept f g all.0) ∙ stays f others all.1

pub found_first : {fs : List Fault} {f : Fault} → IsFirstOf fs f → first_of fs ≡ Some f
found_first (here {others = others} f all) = stays f others all
found_first {f = f} (later g less more) = ap (earlier (Some g)) (found_first more) ∙ gives_way g f less
