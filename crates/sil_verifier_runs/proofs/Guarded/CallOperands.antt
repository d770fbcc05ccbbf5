-- The operands of a call behind the function that is called: what is lent by them stays while the callee runs.
use Rattle.std.proofs.Common.{◌≡◌, ℕ, zero, suc, List, [], ◌∷◌, ◌++◌, append-nil, length, map, refl, sym, ap, ap₂, ◌∙◌, subst, Bool, true, false, cond, Option}
use Rattle.std.proofs.Common.{Some, None, Ok}
use Rattle.std.specs.Prelude.{slice_get}
use Rattle.std.specs.List.{AllZip}
use Rattle.std.specs.declared.result.Result.{Result}
use Rattle.std.proofs.lemmas.Bool.{true≢false}
use Rattle.std.proofs.lemmas.Option.{same_Some}
use Rattle.argument_conventions.specs.Arguments.{Told, arguments_of, conventions_of}
use Rattle.argument_conventions.specs.declared.convention.ArgumentConvention.{ArgumentConvention}
use Rattle.argument_conventions.specs.declared.convention.ArgumentConvention.TheVariants as convention
use Rattle.instruction_table.specs.Forms.{roles_of}
use Rattle.instruction_table.specs.declared.entries.Role.{Role}
use Rattle.instruction_table.specs.declared.entries.Role.TheVariants as role
use Rattle.instruction_table.specs.declared.op.Op.TheVariants as op
use Rattle.sil_cfg_items.specs.Items.{item_defined, item_taken, taken_in}
use Rattle.sil_cfg_items.specs.Parts.{inst_at}
use Rattle.sil_cfg_items.specs.Roles.{by_convention, by_row, conventions_by, conventions_in, role_handed, roles_for, taken_as, taken_by, taken_each}
use Rattle.sil_cfg_items.specs.declared.taken.Taken.{Taken}
use Rattle.numbered_form.specs.Lists.{Each}
use Rattle.sil_verifier_frames.specs.ownership_kinds_chains.declared.ownership_chains.facts.Facts.{Facts}
use Rattle.sil_verifier_frames.specs.ownership_kinds_chains.OwnershipMarks.Marks.{end_of, ended_by, ended_with, ends_owned, ends_scope}
use Rattle.sil_ast.specs.Blocks.{args_of}
use Rattle.sil_ast.specs.declared.function.Function.{Function}
use Rattle.sil_ast.specs.declared.inst.Inst.{Inst}
use Rattle.sil_ast.specs.declared.module.Module.{Module}
use Rattle.sil_ast.specs.declared.operands.Operand.{Operand}
use Rattle.sil_ast.specs.declared.place.PointId.{PointId}
use Rattle.sil_ast.specs.declared.place.ValueId.{ValueId}
use Rattle.sil_cfg.specs.declared.item.Item.TheVariants as item
use Rattle.sil_types_declarations.specs.TypeDefinitions.Declarations.{Declarations, declarations_of}
use Rattle.sil_types_declarations.specs.declared.type_definitions.kind.Kind.{Kind}
use Rattle.sil_types_declarations.specs.declared.type_definitions.kind.Kind.TheVariants as kind
use Rattle.holder_model_values.specs.RunValues.Memory.{Memory}
use Rattle.sil_verifier_frames.specs.sil_verifier_values.inner.Handed.{IsToldOf, kind_told}
use Rattle.sil_verifier_frames.specs.sil_verifier_values.inner.Known.{IsAcceptedBody, kind_at}
use Rattle.sil_verifier_frames.proofs.sil_verifier_values.Accepted.{well_typed}
use Rattle.sil_verifier_frames.proofs.sil_verifier_values.Parameters.{entry_told}
use Rattle.sil_verifier_frames.proofs.holder_model_typing.RunTypingLaws.CallFacts.{Called, called}
use Rattle.sil_verifier_frames.proofs.holder_model_typing.RunTypingLaws.Rows.Points.{is_at}
use Rattle.sil_verifier_frames.specs.holder_model.Data.{Datum, references_in}
use Rattle.sil_verifier_frames.specs.holder_model.Faults.{ConsumesLent, HolderFault, NamesDead}
use Rattle.sil_verifier_frames.specs.holder_model.Frames.{Entry, Gone, Held, Lent, Plain, and_more, any_dead, datum_in, datum_or_fault, ends, entry_at, has_any, is_consumed}
use Rattle.sil_verifier_frames.specs.holder_model.Frames.{operand, operand_data, unless_dead, used_datum}
use Rattle.sil_verifier_frames.proofs.holder_model_laws.HolderLaws.Counts.Entries.{chosen_ok, ok_through}
use Rattle.sil_verifier_runs.proofs.Guarded.Changing.{more_parts}
use Rattle.sil_verifier_runs.proofs.Guarded.RowTables.{is_scope_role}
use Rattle.sil_verifier_runs.proofs.Guarded.Sources.{each_slice}
use Rattle.sil_verifier_runs.proofs.Guarded.LentArguments.{mapped_at, parameter_at}

-- ---- data of operands

used_there : (r : Role) (e : Entry) (x : Datum) → used_datum r e ≡ Ok x → datum_in e ≡ Some x
used_there r Gone x is = absurd (cc)
used_there r (Held y) x is = cc
used_there r (Lent y) x is = let same = (chosen_ok (is_consumed r) ConsumesLent (Ok y) x is).1 in cc
used_there r (Plain y) x is = cc

module _ (facts : ValueId → Option Facts) (memory : Memory) (entries left : List Entry) where
  abbrev choice : Taken → Bool → Result Datum HolderFault
  choice t b = cond b (datum_or_fault (datum_in (entry_at entries t.value))) (used_datum t.role (entry_at left t.value))

  -- one that doesn't end is left
  pub used_stays : (t : Taken) (x : Datum) → ends facts t ≡ false → operand facts memory entries left t ≡ Ok x → datum_in (entry_at left t.value) ≡ Some x
  used_stays t x none h =
      let y = ok_through (unless_dead memory) (choice t (ends facts t)) x h in
      let put = (chosen_ok (any_dead memory (references_in y.0)) NamesDead (Ok y.0) x y.2).1 in
      let same : y.0 ≡ x = cc in
      used_there t.role (entry_at left t.value) x (ap (choice t) (sym none) ∙ y.1 ∙ ap Ok same)

  abbrev Found : List Taken → Type 0
  Found ts = (xs : List Datum) (k : ℕ) (x : Datum) → operand_data facts memory entries left ts ≡ Ok xs → slice_get xs k ≡ Some x
      → (t : Taken) × (slice_get ts k ≡ Some t) × (operand facts memory entries left t ≡ Ok x)

  -- each datum is an operand's
  pub data_at : (ts : List Taken) → Found ts
  data_at [] xs k x h at = let same : [] ≡ xs = cc in let none : slice_get {X = Datum} [] k ≡ Some x = ap (λ (ys : List Datum). slice_get ys k) same ∙ at in absurd (cc)
  data_at (t ∷ ts) xs k x h at =
      let first = ok_through (λ y. and_more y (operand_data facts memory entries left ts)) (operand facts memory entries left t) xs h in
      let more = more_parts first.0 (operand_data facts memory entries left ts) xs first.2 in
      by (data_at ts) first.0 more.0 first.1 more.1 k (ap (λ (ys : List Datum). slice_get ys k) more.2 ∙ at)
    where
      by : Found ts → (y : Datum) (ys : List Datum) → operand facts memory entries left t ≡ Ok y → operand_data facts memory entries left ts ≡ Ok ys
          → (k : ℕ) → slice_get (y ∷ ys) k ≡ Some x → (u : Taken) × (slice_get (t ∷ ts) k ≡ Some u) × (operand facts memory entries left u ≡ Ok x)
      by later y ys one rest zero e = (t, refl, one ∙ ap Ok (same_Some y x e))
      by later y ys one rest (suc k) e = later ys k x rest e

-- ---- roles

used_unended : (facts : ValueId → Option Facts) (t : Taken) → t.role ≡ role.Used → ends facts t ≡ false
used_unended facts t is = by (facts t.value)
  where
    of_kind : (k : Kind) → has_any (ended_by k t.role t.value) ≡ false
    of_kind kind.Owned = ap (λ r. has_any (cond (ends_owned r) (end_of t.value ∷ []) [])) is
    of_kind kind.Guaranteed = ap (λ r. has_any (cond (ends_scope r) (end_of t.value ∷ []) [])) is
    of_kind kind.Plain = refl

    by : (o : Option Facts) → has_any (ended_with o t) ≡ false
    by None = refl
    by (Some x) = of_kind x.kind

handed_unscoped : (c : ArgumentConvention) → is_scope_role (role_handed c) ≡ false
handed_unscoped convention.Plain = refl
handed_unscoped convention.Owned = refl
handed_unscoped convention.Guaranteed = refl
handed_unscoped (convention.Address c) = refl

abbrev EndsNoScope : Taken → Type 0
EndsNoScope t = is_scope_role t.role ≡ false

each_unscoped : (os : List Operand) (cs : List ArgumentConvention) → Each EndsNoScope (taken_each os (map by_convention cs))
each_unscoped [] cs = tt
each_unscoped (o ∷ os) [] = tt
each_unscoped (o ∷ os) (c ∷ cs) = (handed_unscoped c, each_unscoped os cs)

-- the treatment of an operand that a call hands over
taken_parts : (os : List Operand) (cs : List ArgumentConvention) (k : ℕ) (t : Taken) → slice_get (taken_each os (map by_convention cs)) k ≡ Some t
    → (c : ArgumentConvention) × (slice_get cs k ≡ Some c) × (t.role ≡ role_handed c)
taken_parts [] cs k t e = absurd (cc)
taken_parts (o ∷ os) [] k t e = absurd (cc)
taken_parts (o ∷ os) (c ∷ cs) zero t e = (c, refl, ap (λ (u : Taken). u.role) (sym (same_Some (taken_as o (by_convention c)) t e)))
taken_parts (o ∷ os) (c ∷ cs) (suc k) t e = taken_parts os cs k t e

zip_at : {A B : Type 0} (R : A → B → Type 0) (xs : List A) (ys : List B) → AllZip R xs ys → (k : ℕ) (x : A) (y : B) → slice_get xs k ≡ Some x → slice_get ys k ≡ Some y → R x y
zip_at R [] ys h k x y ex ey = absurd (cc)
zip_at R (z ∷ xs) [] h k x y ex ey = absurd (cc)
zip_at R (z ∷ xs) (w ∷ ys) h zero x y ex ey = let same : z ≡ x = cc in let other : w ≡ y = cc in subst (λ u. R u y) same (subst (R z) other h.0)
zip_at R (z ∷ xs) (w ∷ ys) h (suc k) x y ex ey = zip_at R xs ys h.1 k x y ex ey

guaranteed_told : (c : ArgumentConvention) → kind_told c ≡ kind.Guaranteed → role_handed c ≡ role.Used
guaranteed_told convention.Plain e = refl
guaranteed_told convention.Owned e = absurd (cc)
guaranteed_told convention.Guaranteed e = refl
guaranteed_told (convention.Address c) e = absurd (cc)

-- ---- a call

module _ (m : Module) (n : ℕ) (f : Function) (a : IsAcceptedBody m n f) (p : PointId) (i : Inst) (here : inst_at f p ≡ Some i) (call : i.op ≡ op.Apply) where
  abbrev d : Declarations
  d = declarations_of m

  pub calling : Called m (well_typed m a.verified) n f a.body.there p.block.0 p.index i (is_at f p i here) call
  calling = called m (well_typed m a.verified) n f a.body.there p.block.0 p.index i (is_at f p i here) call

  abbrev pub all_taken : List Taken
  all_taken = taken_as calling.value (by_row role.Used) ∷ taken_each calling.handed (map by_convention (conventions_in i))

  pub taken_is : item_taken f (item.Inst p) ≡ all_taken
  taken_is =
      ap (λ o. taken_in o ++ []) here ∙ append-nil (taken_by i)
      ∙ ap₂ (λ x xs. taken_each xs (roles_for (roles_of x) (conventions_in i) (length xs))) call calling.operands

  -- it ends no scope
  pub ends_no_scope : (k : ℕ) (t : Taken) → slice_get all_taken k ≡ Some t → is_scope_role t.role ≡ true → ⊥
  ends_no_scope k t at scope = true≢false (sym scope ∙ each_slice EndsNoScope all_taken k t (refl, each_unscoped calling.handed (conventions_in i)) at)

  conventions_are : conventions_in i ≡ conventions_of calling.body.signature
  conventions_are = ap conventions_by calling.told ∙ append-nil (conventions_of calling.body.signature)

  -- the operand of a Guaranteed argument doesn't end
  pub lent_operand : (g : ℕ) → IsAcceptedBody m g calling.body → (facts : ValueId → Option Facts) (memory : Memory) (entries left : List Entry) (callee : Datum)
      (args : List Datum) → operand_data facts memory entries left (item_taken f (item.Inst p)) ≡ Ok (callee ∷ args)
      → (k : ℕ) (v : ValueId) (x : Datum) → slice_get (item_defined calling.body item.Entry) k ≡ Some v → slice_get args k ≡ Some x
      → kind_at d calling.body v ≡ kind.Guaranteed
      → (t : Taken) × (slice_get all_taken (suc k) ≡ Some t) × (datum_in (entry_at left t.value) ≡ Some x)
  lent_operand g b facts memory entries left callee args given k v x defined at guaranteed =
      let found = data_at facts memory entries left (item_taken f (item.Inst p)) (callee ∷ args) (suc k) x given at in
      let taken_at : slice_get all_taken (suc k) ≡ Some found.0 = ap (λ ts. slice_get ts (suc k)) (sym taken_is) ∙ found.1 in
      let parts = taken_parts calling.handed (conventions_in i) k found.0 taken_at in
      let argument = parameter_at m g calling.body b k v defined in
      let told = mapped_at (λ (t : Told). t.convention) (arguments_of calling.body.signature) k parts.0 (ap (λ cs. slice_get cs k) (sym conventions_are) ∙ parts.1) in
      let of = zip_at (IsToldOf d calling.body) (arguments_of calling.body.signature) (args_of calling.body 0) (entry_told m g calling.body b) k told.0 argument.0 told.1 argument.1 in
      let has : kind_told parts.0 ≡ kind.Guaranteed = ap kind_told (sym told.2) ∙ sym of.has_kind ∙ ap (kind_at d calling.body) argument.2 ∙ guaranteed in
      (found.0, taken_at, used_stays facts memory entries left found.0 x (used_unended facts found.0 (parts.2 ∙ guaranteed_told parts.0 has)) found.2)
