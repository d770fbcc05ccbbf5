-- The memory in which a callee begins: the places that it is to fill are empty, and all other cells are as they were.
use Rattle.std.proofs.Common.{◌≡◌, ⊎_elim, inl, inr, ℕ, List, [], ◌∷◌, length, Bool, true, false, Some, refl, sym, ap, ◌∙◌, subst, arith}
use Rattle.std.specs.List.{list_all}
use Rattle.std.proofs.lemmas.Bool.{and_from}
use Rattle.holder_model_laws.specs.holder_model.Calling.{emptied_for, handed_over}
use Rattle.holder_model_laws.specs.holder_model.Frames.{LentPlace}
use Rattle.argument_conventions.specs.declared.row.Content.{Content}
use Rattle.argument_conventions.specs.declared.row.Content.TheVariants as content
use Rattle.holder_model_laws.specs.HolderLaws.inner.Cells.Cells.{ChangesAt, IsInside, cell_at, has_cell}
use Rattle.holder_model_laws.proofs.HolderLaws.Cells.Writes.{emptied_changes, emptied_empty}
use Rattle.numbered_form.proofs.PointChecks.Among.{Among}
use Rattle.holder_model_values.specs.RunValues.Cells.{Empty}
use Rattle.holder_model_values.specs.RunValues.Memory.{Memory}
use Rattle.holder_model_values.specs.RunValues.Places.{Home, OnStack, emptied, home_cells}

pub each_all : {A : Type 0} (test : A → Bool) (xs : List A) → ((x : A) → Among x xs → test x ≡ true) → list_all test xs ≡ true
each_all test [] h = refl
each_all test (x ∷ xs) h = and_from (test x) (list_all test xs) (h x (inl refl)) (each_all test xs (λ y c. h y (inr c)))

-- all are on the stack, and their cells are there
abbrev pub AreInside : Memory → List LentPlace → Type 0
AreInside m ls = (l : LentPlace) → Among l ls → (l.place.home ≡ OnStack) × IsInside m l.place

-- what one place that is handed over changes
record ChangesOne (m : Memory) (l : LentPlace) (after : Memory) : Type 0 where
  pub sizes : (h : Home) → length (home_cells after h) ≡ length (home_cells m h)
  pub same : (n : ℕ) → (l.row.before ≡ content.Empty → has_cell l.place n ≡ false) → cell_at after OnStack n ≡ cell_at m OnStack n
  pub empty : (n : ℕ) → l.row.before ≡ content.Empty → has_cell l.place n ≡ true → cell_at after OnStack n ≡ Some Empty
  pub kept : (n : ℕ) → cell_at m OnStack n ≡ Some Empty → cell_at after OnStack n ≡ Some Empty

one_handed : (m : Memory) (l : LentPlace) → l.place.home ≡ OnStack → IsInside m l.place → ChangesOne m l (emptied_for m l l.row.before)
one_handed m l home inside = at l.row.before refl
  where
    at : (c : Content) → l.row.before ≡ c → ChangesOne m l (emptied_for m l c)
    at content.Full e = record { sizes = λ h. refl; same = λ n out. refl; empty = λ n is has. absurd (not_both (sym e ∙ is)); kept = λ n is. is }
      where
        not_both : content.Full ≡ content.Empty → ⊥
        not_both e = cc
    at content.Empty e = record {
      sizes = changes.sizes;
      same = λ n out. changes.others OnStack n (λ g. out e);
      empty = λ n is has. subst (λ g. cell_at (emptied m l.place) g n ≡ Some Empty) home (emptied_empty m l.place inside n has);
      kept = λ n is. by n (has_cell l.place n) refl is;
    }
      where
        changes : ChangesAt l.place m (emptied m l.place)
        changes = emptied_changes m l.place inside

        by : (n : ℕ) (b : Bool) → has_cell l.place n ≡ b → cell_at m OnStack n ≡ Some Empty → cell_at (emptied m l.place) OnStack n ≡ Some Empty
        by n true has is = subst (λ g. cell_at (emptied m l.place) g n ≡ Some Empty) home (emptied_empty m l.place inside n has)
        by n false out is = changes.others OnStack n (λ g. out) ∙ is

-- the places that are to be filled, and their cells
pub record IsHandedOver (m : Memory) (ls : List LentPlace) (after : Memory) : Type 0 where
  pub sizes : (h : Home) → length (home_cells after h) ≡ length (home_cells m h)
  pub same : (n : ℕ) → ((l : LentPlace) → Among l ls → l.row.before ≡ content.Empty → has_cell l.place n ≡ false) → cell_at after OnStack n ≡ cell_at m OnStack n
  pub empty : (l : LentPlace) → Among l ls → l.row.before ≡ content.Empty → (n : ℕ) → has_cell l.place n ≡ true → cell_at after OnStack n ≡ Some Empty
  pub kept : (n : ℕ) → cell_at m OnStack n ≡ Some Empty → cell_at after OnStack n ≡ Some Empty

first_handed : (m : Memory) (l : LentPlace) (ls : List LentPlace) → AreInside m (l ∷ ls) → ChangesOne m l (emptied_for m l l.row.before)
    → IsHandedOver (emptied_for m l l.row.before) ls (handed_over (emptied_for m l l.row.before) ls) → IsHandedOver m (l ∷ ls) (handed_over m (l ∷ ls))
first_handed m l ls inside one more = record {
  sizes = λ h. more.sizes h ∙ one.sizes h;
  same = λ n out. more.same n (λ k c. out k (inr c)) ∙ one.same n (out l (inl refl));
  empty = λ k c. ⊎_elim
      (λ (here : k ≡ l). λ is n has. more.kept n (one.empty n (ap (λ x. x.row.before) (sym here) ∙ is) (ap (λ x. has_cell x.place n) (sym here) ∙ has)))
      (λ (later : Among k ls). more.empty k later)
      c;
  kept = λ n is. more.kept n (one.kept n is);
}

inside_behind : (m : Memory) (l : LentPlace) (ls : List LentPlace) → AreInside m (l ∷ ls) → ChangesOne m l (emptied_for m l l.row.before)
    → AreInside (emptied_for m l l.row.before) ls
inside_behind m l ls inside one k c =
    let was = inside k (inr c) in
    let fits = was.1 in
    let size = one.sizes k.place.home in
    (was.0, omega (arith, fits, size))

pub all_handed : (m : Memory) (ls : List LentPlace) → AreInside m ls → IsHandedOver m ls (handed_over m ls)
all_handed m [] inside = record { sizes = λ h. refl; same = λ n out. refl; empty = λ l c. absurd c; kept = λ n is. is }
all_handed m (l ∷ ls) inside =
    let one = one_handed m l (inside l (inl refl)).0 (inside l (inl refl)).1 in
    first_handed m l ls inside one (all_handed (emptied_for m l l.row.before) ls (inside_behind m l ls inside one))
