-- The operands of an item in the entries of its frame: which one names an object, and what guards it behind the ends.
use Rattle.std.proofs.Common.{◌≡◌, ℕ, zero, suc, ◌+◌, ◌<◌, List, [], ◌∷◌, ◌++◌, refl, sym, ap, ◌∙◌, subst, Bool, true, false, cond, ◌⊎◌, inl, inr, ⊎_elim}
use Rattle.std.proofs.Common.{Option, Some, None, Ok, Err, arith}
use Rattle.std.specs.Prelude.{◌==◌, length, slice_get}
use Rattle.std.specs.declared.result.Result.{Result}
use Rattle.std.specs.List.{list_any}
use Rattle.std.proofs.lemmas.Bool.{and_parts, cases_Bool, eqb-true, false≢true}
use Rattle.sil_cfg_items.specs.Items.{item_taken}
use Rattle.sil_cfg_items.specs.declared.taken.Taken.{Taken}
use Rattle.instruction_table.specs.declared.entries.Role.{Role}
use Rattle.instruction_table.specs.declared.entries.Role.TheVariants as role
use Rattle.numbered_form.specs.Lists.{Each}
use Rattle.sil_verifier_frames.specs.ownership_kinds_chains.OwnershipChains.Facts.{known_or}
use Rattle.sil_verifier_frames.specs.ownership_kinds_chains.declared.ownership_chains.facts.Facts.{Facts}
use Rattle.sil_verifier_frames.specs.ownership_kinds_chains.OwnershipMarks.Marks.{end_of, ended_by, ended_with, ends_owned, ends_scope}
use Rattle.sil_ast.specs.declared.function.Function.{Function}
use Rattle.sil_ast.specs.declared.module.Module.{Module}
use Rattle.sil_ast.specs.declared.place.ObjectId.{ObjectId}
use Rattle.sil_ast.specs.declared.place.ValueId.{ValueId}
use Rattle.sil_cfg.specs.declared.item.Item.{Item}
use Rattle.sil_types_declarations.specs.TypeDefinitions.Declarations.{Declarations, declarations_of}
use Rattle.sil_types_declarations.specs.declared.type_definitions.kind.Kind.{Kind}
use Rattle.sil_types_declarations.specs.declared.type_definitions.kind.Kind.TheVariants as kind
use Rattle.holder_model_values.specs.RunValues.Memory.{Memory}
use Rattle.holder_model_values.specs.RunValues.Places.{Home, Inside, OnStack}
use Rattle.holder_model_values.specs.RunValues.Values.{Value, references_of}
use Rattle.sil_verifier_frames.specs.sil_verifier_trails.AcceptedTrails.inner.Bases.{IsBaseOf}
use Rattle.sil_verifier_frames.specs.sil_verifier_trails.AcceptedTrails.inner.Passing.{is_end}
use Rattle.sil_verifier_frames.proofs.sil_verifier_trails.AcceptedTrails.Tests.{first_of}
use Rattle.sil_verifier_frames.specs.ownership_kinds_origins.Facts.{facts_in}
use Rattle.sil_verifier_frames.specs.sil_verifier_values.inner.Bases.{IsLender}
use Rattle.sil_verifier_frames.specs.sil_verifier_values.inner.Known.{IsAcceptedBody, kind_at}
use Rattle.sil_verifier_frames.proofs.sil_verifier_values.Addresses.{addresses_of_lenders}
use Rattle.sil_verifier_frames.proofs.sil_verifier_values.Based.{lent_by_lenders}
use Rattle.sil_verifier_frames.specs.holder_model.Data.{AddressOf, Datum, FunctionOf, ValueOf, references_in}
use Rattle.sil_verifier_frames.specs.holder_model.Faults.{HolderFault, NamesDead, WrongShape}
use Rattle.sil_verifier_frames.specs.holder_model.Frames.{Entry, Gone, Held, Lent, Operands, Plain, and_more, any_dead, datum_in, datum_or_fault, ends, entry_at, has_any}
use Rattle.sil_verifier_frames.specs.holder_model.Frames.{made_entry, operand, operand_data, operands_of, plain_address, plain_entry, unless_dead, used_datum, without_ended}
use Rattle.sil_verifier_frames.specs.holder_model.Holders.{one_object}
use Rattle.sil_verifier_frames.specs.holder_model_laws.HolderLaws.inner.Counts.Naming.{in_data, in_datum}
use Rattle.sil_verifier_frames.proofs.holder_model_laws.HolderLaws.Counts.Entries.{IsLeftOf, chosen_ok, left_of, ok_through, was_there}
use Rattle.sil_verifier_frames.proofs.holder_model_laws.HolderLaws.Counts.Moves.{operands_are}
use Rattle.sil_verifier_frames.proofs.holder_model_laws.HolderLaws.Counts.Sums.{total_cons}
use Rattle.sil_verifier_runs.specs.inner.Guarded.Guards.{AreLentGuarded, AreOfKinds, IsCurrent, IsGuarded, IsNamed, IsThere, Lending}
use Rattle.sil_verifier_runs.proofs.Guarded.Ended.{unended_stays}
use Rattle.sil_verifier_runs.proofs.Guarded.Entries.{made_lent_same, plain_bare}
use Rattle.sil_verifier_runs.proofs.Guarded.Named.{named_nowhere}
use Rattle.sil_verifier_runs.proofs.Guarded.RowTables as table

-- ---- which operand names an object

pub named_datum : (o : ObjectId) (xs : List Datum) → 0 < in_data (one_object o) xs → (k : ℕ) × (x : Datum) × (slice_get xs k ≡ Some x) × IsNamed o (references_in x)
named_datum o [] n = absurd (omega (arith, n))
named_datum o (x ∷ xs) n = at (named_datum o xs) (in_datum (one_object o) x) refl
  where
    whole : in_data (one_object o) (x ∷ xs) ≡ in_datum (one_object o) x + in_data (one_object o) xs
    whole = total_cons (in_datum (one_object o)) x xs

    at : (0 < in_data (one_object o) xs → (k : ℕ) × (y : Datum) × (slice_get xs k ≡ Some y) × IsNamed o (references_in y)) → (k : ℕ) → in_datum (one_object o) x ≡ k
        → (k : ℕ) × (y : Datum) × (slice_get (x ∷ xs) k ≡ Some y) × IsNamed o (references_in y)
    at more zero e = let r = more (omega (arith, whole, e, n)) in (suc r.0, r.1, r.2, r.3)
    at more (suc k) e = (0, x, refl, omega (arith, e))

module _ (facts : ValueId → Option Facts) (m : Memory) (before left : List Entry) (from : IsLeftOf before left) where
  -- an operand's datum is that of its entry
  operand_entry : (t : Taken) (x : Datum) → operand facts m before left t ≡ Ok x → datum_in (entry_at before t.value) ≡ Some x
  operand_entry t x h =
      let y = ok_through (unless_dead m) (cond (ends facts t) (datum_or_fault (datum_in (entry_at before t.value))) (used_datum t.role (entry_at left t.value))) x h in
      let put = chosen_ok (any_dead m (references_in y.0)) NamesDead (Ok y.0) x y.2 in
      let same : y.0 ≡ x = let e = put.1 in cc in
      at (ends facts t) y.0 y.1 ∙ ap Some same
    where
      of_option : (o : Option Datum) (y : Datum) → datum_or_fault o ≡ Ok y → o ≡ Some y
      of_option None y e = cc
      of_option (Some z) y e = let same : z ≡ y = cc in ap Some same

      of_entry : (e : Entry) (y : Datum) → used_datum t.role e ≡ Ok y → datum_in e ≡ Some y
      of_entry Gone y e = cc
      of_entry (Held z) y e = let same : z ≡ y = cc in ap Some same
      of_entry (Lent z) y e = let same : z ≡ y = let r = (chosen_ok _ _ (Ok z) y e).1 in cc in ap Some same
      of_entry (Plain z) y e = let same : z ≡ y = cc in ap Some same

      at : (b : Bool) (y : Datum) → cond b (datum_or_fault (datum_in (entry_at before t.value))) (used_datum t.role (entry_at left t.value)) ≡ Ok y
          → datum_in (entry_at before t.value) ≡ Some y
      at true y e = of_option (datum_in (entry_at before t.value)) y e
      at false y e =
          let used = of_entry (entry_at left t.value) y e in
          ap datum_in (was_there before left t.value from (λ gone. absurd (none (sym (ap datum_in gone) ∙ used)))) ∙ used
        where
          none : None ≡ Some y → ⊥
          none h = cc

  more_parts : (x : Datum) (r : Result (List Datum) HolderFault) (all : List Datum) → and_more x r ≡ Ok all → (xs : List Datum) × (r ≡ Ok xs) × (x ∷ xs ≡ all)
  more_parts x (Ok xs) all h = (xs, refl, cc)
  more_parts x (Err e) all h = cc

  given_at : (ts : List Taken) (xs : List Datum) → operand_data facts m before left ts ≡ Ok xs → (k : ℕ) (x : Datum) → slice_get xs k ≡ Some x
      → (t : Taken) × (slice_get ts k ≡ Some t) × (datum_in (entry_at before t.value) ≡ Some x)
  given_at [] xs h k x e = let none : [] ≡ xs = cc in absurd (nothing k (ap (λ ys. slice_get ys k) none ∙ e))
    where
      nothing : (k : ℕ) → slice_get {X = Datum} [] k ≡ Some x → ⊥
      nothing k e = cc
  given_at (t ∷ ts) xs h k x e =
      let first = ok_through (λ y. and_more y (operand_data facts m before left ts)) (operand facts m before left t) xs h in
      let more = more_parts first.0 (operand_data facts m before left ts) xs first.2 in
      at first.0 more.0 (given_at ts more.0 more.1) first.1 k (ap (λ ys. slice_get ys k) more.2 ∙ e)
    where
      at : (y : Datum) (ys : List Datum) → ((k : ℕ) (x : Datum) → slice_get ys k ≡ Some x → (u : Taken) × (slice_get ts k ≡ Some u) × (datum_in (entry_at before u.value) ≡ Some x))
          → operand facts m before left t ≡ Ok y → (k : ℕ) → slice_get (y ∷ ys) k ≡ Some x → (u : Taken) × (slice_get (t ∷ ts) k ≡ Some u) × (datum_in (entry_at before u.value) ≡ Some x)
      at y ys later is zero e = let same : y ≡ x = cc in (t, refl, operand_entry t x (is ∙ ap Ok same))
      at y ys later is (suc k) e = let r = later k x e in (r.0, r.1, r.2)

pub each_slice : (P : Taken → Type 0) (ts : List Taken) (k : ℕ) (t : Taken) → Each P ts → slice_get ts k ≡ Some t → P t
each_slice P [] k t h e = cc
each_slice P (x ∷ ts) zero t h e = let same : x ≡ t = cc in subst P same h.0
each_slice P (x ∷ ts) (suc k) t h e = each_slice P ts k t h.1 e

pub slice_here : (front rest : List Taken) (x : Taken) → slice_get (front ++ x ∷ rest) (length front) ≡ Some x
slice_here [] rest x = refl
slice_here (y ∷ front) rest x = slice_here front rest x

pub same_value : (a b : ValueId) → a.0 ≡ b.0 → a ≡ b
same_value a b e = ap number_value e
  where
    number_value : ℕ → ValueId
    number_value n = record { 0 = n }

-- ---- kinds of entries

plain_not_held : (y x : Datum) → plain_entry y ≡ Ok (Held x) → ⊥
plain_not_held (ValueOf y) x h = let e = (chosen_ok (has_any (references_of y)) WrongShape (Ok (Plain (ValueOf y))) (Held x) h).1 in cc
plain_not_held (AddressOf p) x h = let same : plain_address p.home (AddressOf p) ≡ Held x = cc in at p.home (AddressOf p) same
  where
    at : (home : Home) (y : Datum) → plain_address home y ≡ Held x → ⊥
    at OnStack y e = cc
    at (Inside o) y e = cc
plain_not_held (FunctionOf g) x h = cc

pub value_lent : (k : Kind) (y : Value) (x : Datum) → made_entry k (ValueOf y) ≡ Ok (Lent x) → k ≡ kind.Guaranteed
value_lent kind.Owned y x h = cc
value_lent kind.Guaranteed y x h = refl
value_lent kind.Plain y x h = let e = (chosen_ok (has_any (references_of y)) WrongShape (Ok (Plain (ValueOf y))) (Lent x) h).1 in cc

pub held_owned : (k : Kind) (y x : Datum) → made_entry k y ≡ Ok (Held x) → k ≡ kind.Owned
held_owned kind.Owned y x h = refl
held_owned kind.Guaranteed y x h = cc
held_owned kind.Plain y x h = absurd (plain_not_held y x h)

pub lent_not_owned : (k : Kind) (y x : Datum) → made_entry k y ≡ Ok (Lent x) → k ≡ kind.Owned → ⊥
lent_not_owned kind.Owned y x h e = cc
lent_not_owned kind.Guaranteed y x h e = cc
lent_not_owned kind.Plain y x h e = cc

-- ---- ends

scope_ends : (r : Role) → ends_scope r ≡ true → table.is_scope_role r ≡ true
scope_ends role.ScopeRole e = refl
scope_ends role.Consumed e = absurd (false≢true e)
scope_ends role.Used e = absurd (false≢true e)
scope_ends role.Lent e = absurd (false≢true e)
scope_ends role.Forwarded e = absurd (false≢true e)
scope_ends role.AddressRole e = absurd (false≢true e)
scope_ends role.AnyRole e = absurd (false≢true e)
scope_ends role.ByParameter e = absurd (false≢true e)
scope_ends role.Counted e = absurd (false≢true e)

-- an operand that ends is of an Owned value, and of a role that ends it, or of a scope
ended_kind : (k : Kind) (r : Role) (v : ValueId) → has_any (ended_by k r v) ≡ true → ((k ≡ kind.Owned) × (ends_owned r ≡ true)) ⊎ (table.is_scope_role r ≡ true)
ended_kind kind.Owned r v e = at (ends_owned r) refl e
  where
    at : (b : Bool) → ends_owned r ≡ b → has_any (cond b (end_of v ∷ []) []) ≡ true → ((kind.Owned ≡ kind.Owned) × (ends_owned r ≡ true)) ⊎ (table.is_scope_role r ≡ true)
    at true is h = inl (refl, is)
    at false is h = absurd (false≢true h)
ended_kind kind.Guaranteed r v e = at (ends_scope r) refl e
  where
    at : (b : Bool) → ends_scope r ≡ b → has_any (cond b (end_of v ∷ []) []) ≡ true → ((kind.Guaranteed ≡ kind.Owned) × (ends_owned r ≡ true)) ⊎ (table.is_scope_role r ≡ true)
    at true is h = inr (scope_ends r is)
    at false is h = absurd (false≢true h)
ended_kind kind.Plain r v e = absurd (false≢true e)

pub ended_fact : (facts : ValueId → Option Facts) (x : Taken) → ends facts x ≡ true
    → (((known_or facts x.value).kind ≡ kind.Owned) × (ends_owned x.role ≡ true)) ⊎ (table.is_scope_role x.role ≡ true)
ended_fact facts x e = at (facts x.value) e
  where
    at : (o : Option Facts) → has_any (ended_with o x) ≡ true → (((known_or (λ _. o) x.value).kind ≡ kind.Owned) × (ends_owned x.role ≡ true)) ⊎ (table.is_scope_role x.role ≡ true)
    at None h = absurd (false≢true h)
    at (Some k) h = ended_kind k.kind x.role x.value h

module _ (m : Module) (n : ℕ) (f : Function) (a : IsAcceptedBody m n f) (it : Item) (ts : List Taken) (taken_is : item_taken f it ≡ ts)
    (lending : Lending) (memory : Memory) (entries : List Entry) (t : List Item) (ops : Operands)
    (ops_are : operands_of (facts_in (declarations_of m) f) memory entries (item_taken f it) ≡ Ok ops)
    (kinds : AreOfKinds (declarations_of m) f entries) (lent : AreLentGuarded (declarations_of m) f lending memory ops.left t)
    (current : Each (λ (x : Taken). IsCurrent (declarations_of m) f lending memory entries t x.value) (item_taken f it)) where
  abbrev d : Declarations
  d = declarations_of m

  abbrev facts : ValueId → Option Facts
  facts = facts_in d f

  pub left_is : without_ended facts (item_taken f it) entries ≡ Ok ops.left
  left_is = (operands_are facts memory entries (item_taken f it) ops ops_are).left

  given_is : operand_data facts memory entries ops.left ts ≡ Ok ops.given
  given_is = subst (λ ts. operand_data facts memory entries ops.left ts ≡ Ok ops.given) taken_is (operands_are facts memory entries (item_taken f it) ops ops_are).given

  from : IsLeftOf entries ops.left
  from = left_of facts (item_taken f it) entries ops.left left_is

  -- no operand ends a scope
  abbrev pub NoScopes : Type 0
  NoScopes = (k : ℕ) (x : Taken) → slice_get ts k ≡ Some x → table.is_scope_role x.role ≡ true → ⊥

  -- what ends among the operands
  pub ended_among : (v : ValueId) → list_any (is_end facts v) (item_taken f it) ≡ true
      → (k : ℕ) × (x : Taken) × (slice_get ts k ≡ Some x) × (ends facts x ≡ true) × (x.value ≡ v)
  ended_among v h =
      let r = first_of (is_end facts v) (item_taken f it) h in
      let parts = and_parts (ends facts r.here) (r.here.value.0 == v.0) r.passes in (
        length r.front,
        r.here,
        ap (λ ts. slice_get ts (length r.front)) (sym taken_is ∙ r.parts) ∙ slice_here r.front r.rest r.here,
        parts.0,
        same_value r.here.value v (eqb-true r.here.value.0 v.0 parts.1),
      )

  pub unended : NoScopes → (v : ValueId) → (kind_at d f v ≡ kind.Owned → ⊥) → list_any (is_end facts v) (item_taken f it) ≡ false
  unended effective v not_owned = ⊎_elim (λ h. absurd (never (ended_among v h))) (λ none. none) (cases_Bool (list_any (is_end facts v) (item_taken f it)))
    where
      never : ((k : ℕ) × (x : Taken) × (slice_get ts k ≡ Some x) × (ends facts x ≡ true) × (x.value ≡ v)) → ⊥
      never r = ⊎_elim (λ owned. not_owned (ap (kind_at d f) (sym r.4) ∙ owned.0)) (λ scope. effective r.0 r.1 r.2 scope) (ended_fact facts r.1 r.3)

  pub stays : NoScopes → (v : ValueId) → (kind_at d f v ≡ kind.Owned → ⊥) → entry_at ops.left v ≡ entry_at entries v
  stays effective v not_owned = unended_stays facts v (item_taken f it) entries ops.left (unended effective v not_owned) left_is

  -- ---- the operand that names an object

  pub record IsSource (o : ObjectId) (y : Datum) : Type 0 where
    pub k : ℕ
    pub taken : Taken
    pub is_taken : slice_get ts k ≡ Some taken
    pub is_given : slice_get ops.given k ≡ Some y
    pub entry : datum_in (entry_at entries taken.value) ≡ Some y
    pub named : IsNamed o (references_in y)

  -- it is the operand at the place of its datum
  pub record IsFound (o : ObjectId) (k : ℕ) (y : Datum) : Type 0 where
    pub source : IsSource o y
    pub taken_there : slice_get ts k ≡ Some source.taken

  pub found_at : (o : ObjectId) (k : ℕ) (y : Datum) → slice_get ops.given k ≡ Some y → IsNamed o (references_in y) → IsFound o k y
  found_at o k y e named =
      let g = given_at facts memory entries ops.left from ts ops.given given_is k y e in
      record { source = record { k = k; taken = g.0; is_taken = g.1; is_given = e; entry = g.2; named = named }; taken_there = g.1 }

  pub source_of : (o : ObjectId) (k : ℕ) (y : Datum) → slice_get ops.given k ≡ Some y → IsNamed o (references_in y) → IsSource o y
  source_of o k y e named = (found_at o k y e named).source

  current_of : (k : ℕ) (x : Taken) → slice_get ts k ≡ Some x → IsCurrent d f lending memory entries t x.value
  current_of k x e = each_slice (λ (y : Taken). IsCurrent d f lending memory entries t y.value) ts k x
      (subst (Each (λ (y : Taken). IsCurrent d f lending memory entries t y.value)) taken_is current) e

  base_not_owned : (w b : ValueId) → (kind_at d f w ≡ kind.Owned → ⊥) → IsBaseOf d f b w → kind_at d f b ≡ kind.Owned → ⊥
  base_not_owned w b not_owned base owned = at (kind_at d f w) refl
    where
      lender : IsLender d f b → ⊥
      lender l = let g : kind_at d f b ≡ kind.Guaranteed = ap (λ (o : Option Facts). (known_or (λ _. o) b).kind) l.facts in cc

      at : (k : Kind) → kind_at d f w ≡ k → ⊥
      at kind.Owned is = not_owned is
      at kind.Guaranteed is = lender (lent_by_lenders m n f a w b is base)
      at kind.Plain is = lender (addresses_of_lenders m n f a w b is base)

  -- what a lent operand names is guarded behind the ends
  pub lent_guarded : NoScopes → (o : ObjectId) (y : Datum) (src : IsSource o y) → entry_at entries src.taken.value ≡ Lent y
      → (kind_at d f src.taken.value ≡ kind.Owned → ⊥) → IsGuarded d f lending memory ops.left o src.taken.value
  lent_guarded effective o y src e not_owned =
      lent src.taken.value y (stays effective src.taken.value not_owned ∙ e)
      (λ b base. let cur = current_of src.k src.taken src.is_taken b base in
      (subst IsThere (sym (stays effective b (base_not_owned src.taken.value b not_owned base))) cur.0, cur.1))
      o src.named

  -- the entry of an operand that names an object is held or lent
  pub data Form (w : ValueId) (y : Datum) : Type 0 where
    held : entry_at entries w ≡ Held y → kind_at d f w ≡ kind.Owned → Form w y
    lends_it : entry_at entries w ≡ Lent y → (kind_at d f w ≡ kind.Owned → ⊥) → ((v : Value) → y ≡ ValueOf v → kind_at d f w ≡ kind.Guaranteed) → Form w y

  made_at : (w : ValueId) (e : Entry) → entry_at entries w ≡ e → (e ≡ Gone → ⊥) → (x : Datum) × (made_entry (kind_at d f w) x ≡ Ok e)
  made_at w e is there_it = ⊎_elim (λ gone. absurd (there_it (sym is ∙ gone))) (λ made. (made.0, made.1 ∙ ap Ok is)) (kinds w)

  pub form_of : (o : ObjectId) (w : ValueId) (y : Datum) → datum_in (entry_at entries w) ≡ Some y → IsNamed o (references_in y) → Form w y
  form_of o w y e named = at (entry_at entries w) refl e
    where
      at : (k : Entry) → entry_at entries w ≡ k → datum_in k ≡ Some y → Form w y
      at Gone is h = cc
      at (Held z) is h =
          let same : z ≡ y = cc in
          let made = made_at w (Held z) is (λ gone. cc) in
          held (is ∙ ap Held same) (held_owned (kind_at d f w) made.0 z made.1)
      at (Lent z) is h =
          let same : z ≡ y = cc in
          let made = made_at w (Lent z) is (λ gone. cc) in
          let it : made.0 ≡ z = made_lent_same (kind_at d f w) made.0 z made.1 in
          lends_it (is ∙ ap Lent same) (λ owned. lent_not_owned (kind_at d f w) made.0 z made.1 owned)
          (λ v value. value_lent (kind_at d f w) v z (subst (λ (x : Datum). made_entry (kind_at d f w) x ≡ Ok (Lent z)) (it ∙ same ∙ value) made.1))
      at (Plain z) is h =
          let same : z ≡ y = cc in
          absurd (named_nowhere o (subst (λ os. IsNamed o os) (ap references_in (sym same) ∙ plain_bare d f entries kinds w z is) named))
