-- What a typed instruction of a function in ownership form becomes, kind by kind, with what typing says of its operands.
use Rattle.std.proofs.Common.{◌≡◌, ℕ, suc, List, [], ◌∷◌, ◌++◌, length, map, refl, sym, ap, ◌∙◌, subst, append-nil, arith, Bool, true, false, not, Option, Some}
use Rattle.std.proofs.Common.{None}
use Rattle.std.specs.Prelude.{◌&&◌, ◌||◌, ◌==◌, is_some, option_and_then, slice_get, if◌then◌else◌}
use Rattle.std.specs.List.{flat_map}
use Rattle.std.specs.Option.{option_to_list}
use Rattle.std.proofs.lemmas.Bool.{and_parts, eqb-true, not-false}
use Rattle.std.proofs.lemmas.List.{length-map, nil_from_length}
use Rattle.instruction_table.specs.Forms.{results_of, type_words_of}
use Rattle.instruction_table.specs.declared.entries.Results.TheVariants.{NoResult, OneResult, ResultList}
use Rattle.instruction_table.specs.declared.op.Op.{Op}
use Rattle.instruction_table.specs.declared.op.Op.TheVariants as op
use Rattle.numbered_form.specs.Lists.{is_empty}
use Rattle.numbered_form.specs.inner.Parts.{first_then, has_operands, is_bare, is_typed, may_have}
use Rattle.sil_ast.specs.declared.decl.Field.{Field}
use Rattle.sil_ast.specs.declared.function.Function.{Function}
use Rattle.sil_ast.specs.declared.inst.Inst.{Inst}
use Rattle.sil_ast.specs.declared.inst.Qualifier.{Qualifier}
use Rattle.sil_ast.specs.declared.inst.Qualifier.TheVariants as word
use Rattle.sil_ast.specs.declared.module.Module.{Module}
use Rattle.sil_ast.specs.declared.operands.Operand.{Operand}
use Rattle.sil_ast.specs.declared.place.ValueId.{ValueId}
use Rattle.sil_ast.specs.declared.type_name.TypeName.{TypeName}
use Rattle.sil_types_declarations.specs.TypeDefinitions.Declarations.{Declarations, declarations_of}
use Rattle.holder_model_typing.specs.sil_types.Typing.FormRules.{has_word_by, is_at_storage, is_owned_form, is_read_word, is_write_word}
use Rattle.holder_model_typing.specs.sil_types.Typing.ResultCounts.{is_count_by, is_count_of}
use Rattle.holder_model_typing.specs.sil_types.Typing.RowTypes.{all_fields, given_by, gives, passes, row_types, takes, type_of, written}
use Rattle.holder_model_typing.specs.sil_types.Typing.Shapes.{elements, field_type, fields_of_struct, is_nontrivial, is_object, is_storage, object_at}
use Rattle.holder_model_typing.specs.sil_types.Typing.Shapes.{target, where_it}
use Rattle.ownership_lowering_model.specs.Extracts.{element_extracts, extracts_elements, extracts_fields, field_extracts, member_of, members_of_struct}
use Rattle.ownership_lowering_model.specs.LoweredInsts.{becomes, becomes_by, destroys_by, loads_by, loads_spare, lowering_of, plain_load, plain_store, releases_spare}
use Rattle.ownership_lowering_model.specs.LoweredInsts.{retains_loaded, stores_by}
use Rattle.ownership_lowering_model.specs.NewInsts.{loaded_from, release, retain}
use Rattle.ownership_lowering_model.specs.declared.lowering.Lowering.TheVariants as lowering
use Rattle.holder_model_typing.proofs.RunTypingLaws.EndFacts.{one_operand}
use Rattle.numbered_form.proofs.Lists.{empty_is, mapped_from}
use Rattle.holder_model_typing.proofs.RunTypingLaws.Rows.Finding.{found_behind, mapped_some, passed, some_of, where_found}
use Rattle.ownership_lowering_laws.proofs.LoweringLaws.Structs.{IsStruct, struct_is}
use Rattle.ownership_lowering_laws.proofs.LoweredTypingLaws.Sound.{Sound, Source}

-- the operand with this type alone
pub record IsOne (i : Inst) (o : Operand) (t : TypeName) : Type 0 where
  pub only : i.operands ≡ o ∷ []
  pub typed : o.ty ≡ Some t

-- what is loaded: the address, with its type, the type of what is there, and the result
pub record IsLoad (d : Declarations) (i : Inst) (place : Operand) (p t : TypeName) (v : ValueId) : Type 0 where
  pub one : IsOne i place p
  pub at : object_at p ≡ Some t
  pub result : i.results ≡ v ∷ []
  pub row : row_types d i ≡ Some (t ∷ [])

-- the place of a value that isn't trivial
pub record IsCounted (d : Declarations) (place : Operand) (p t : TypeName) : Type 0 where
  pub typed : place.ty ≡ Some p
  pub at : target p ≡ Some t
  pub nontrivial : is_nontrivial d t ≡ true

-- these instructions stand in its place, where the spare value is s
pub data Becomes (d : Declarations) (i : Inst) (s : ValueId) : List Inst → Type 0 where
  stays : lowering_of i.op ≡ lowering.Stays → Becomes d i s (i ∷ [])
  at_storage : i.op ≡ op.DestroyAddr → is_at_storage i ≡ true → Becomes d i s (i ∷ [])
  vanishes : Becomes d i s []
  retains : (o : Operand) (t : TypeName) → IsOne i o t → is_nontrivial d t ≡ true → Becomes d i s (retain d o ∷ [])
  releases : (o : Operand) (t : TypeName) → IsOne i o t → is_nontrivial d t ≡ true → Becomes d i s (release d o ∷ [])
  loads : (place : Operand) (p t : TypeName) (v : ValueId) → IsLoad d i place p t v → Becomes d i s (plain_load i ∷ [])
  copies : (place : Operand) (p t : TypeName) (v : ValueId) → IsLoad d i place p t v → IsCounted d place p t
      → Becomes d i s (plain_load i ∷ retain d (loaded_from place v) ∷ [])
  stores : i.op ≡ op.Store → Becomes d i s (plain_store i ∷ [])
  assigns : (x place : Operand) (p t : TypeName) → i.op ≡ op.Store → i.operands ≡ x ∷ place ∷ [] → IsCounted d place p t →
      Becomes d i s (loads_spare d s place ∷ plain_store i ∷ releases_spare d s place ∷ [])
  destroys : (place : Operand) (p t : TypeName) → i.op ≡ op.DestroyAddr → i.operands ≡ place ∷ [] → IsCounted d place p t
      → Becomes d i s (loads_spare d s place ∷ releases_spare d s place ∷ [])
  by_fields : (o : Operand) (t : TypeName) (fs : List Field) (struct : IsStruct d t fs) → i.op ≡ op.DestructureStruct → IsOne i o t
      → length fs ≡ length i.results
      → Becomes d i s (field_extracts o (map (member_of struct.name) fs) i.results)
  by_elements : (o : Operand) (t : TypeName) (ts : List TypeName) → i.op ≡ op.DestructureTuple → IsOne i o t → elements t ≡ Some ts
      → length ts ≡ length i.results
      → Becomes d i s (element_extracts o 0 i.results)

-- ---- operands by their rows

-- an operand without a type, and one behind it
two_operands : (first second : Operand → Bool) (os : List Operand) → (first_then first (first_then second is_empty) os || (false && is_empty os)) ≡ true
    → (x o : Operand) × (os ≡ x ∷ o ∷ []) × (second o ≡ true)
two_operands first second [] e = cc
two_operands first second (x ∷ os) e = at os (and_parts (first x) (first_then second is_empty os) (either (first x && first_then second is_empty os) e)).1
  where
    either : (a : Bool) → (a || (false && is_empty (x ∷ os))) ≡ true → a ≡ true
    either true h = refl
    either false h = cc

    at : (os : List Operand) → first_then second is_empty os ≡ true → (z o : Operand) × (x ∷ os ≡ z ∷ o ∷ []) × (second o ≡ true)
    at [] h = cc
    at (o ∷ rest) h =
        let both = and_parts (second o) (is_empty rest) h in
        (x, o, ap (λ l. x ∷ o ∷ l) (empty_is rest both.1), both.0)

pub taken_type : (w : Option TypeName) → is_some (takes w) ≡ true → (t : TypeName) × (w ≡ Some t)
taken_type None e = cc
taken_type (Some t) e = (t, refl)

pub object_there : (p t : TypeName) → target p ≡ Some t → is_object t ≡ true → object_at p ≡ Some t
object_there p t e o = ap (where_it is_object) e ∙ ap (λ b. if b then Some t else None) o

no_more : {A : Type 0} (xs : List A) → (length xs == 1) ≡ true → (x : A) × (xs ≡ x ∷ [])
no_more [] e = absurd (cc)
no_more (x ∷ []) e = (x, refl)
no_more (x ∷ y ∷ xs) e = let none : suc (suc (length xs)) ≡ 1 = eqb-true (suc (suc (length xs))) 1 e in absurd (omega arith)

module _ (m : Module) (f : Function) (source : Source m f) (i : Inst) (sound : Sound m f i) where
  abbrev d : Declarations
  d = declarations_of m

  operands_by : (o : Op) → i.op ≡ o → has_operands o i.operands ≡ true
  operands_by o is = subst (λ x. has_operands x i.operands ≡ true) is sound.parts.operands

  keeps_by : (o : Op) → i.op ≡ o → is_some (given_by o d i) ≡ true
  keeps_by o is = subst (λ x. is_some (given_by x d i) ≡ true) is sound.keeps

  counted_by : (o : Op) → i.op ≡ o → is_count_by (results_of o) (given_by o d i) (length i.results) ≡ true
  counted_by o is = subst (λ x. is_count_by (results_of x) (given_by x d i) (length i.results) ≡ true) is sound.results

  word_by : (o : Op) → i.op ≡ o → has_word_by (type_words_of o) d i ≡ true
  word_by o is =
      subst (λ x. has_word_by (type_words_of x) d i ≡ true) is
      (not-false (has_word_by (type_words_of i.op) d i)
      (subst (λ x. (is_owned_form x && not (has_word_by (type_words_of i.op) d i)) ≡ false) source.owned sound.words))

  pub no_results : (o : Op) → i.op ≡ o → results_of o ≡ NoResult → i.results ≡ []
  no_results o is none = nil_from_length i.results (eqb-true (length i.results) 0 (subst (λ x. is_count_by x (given_by o d i) (length i.results) ≡ true) none (counted_by o is)))

  one_result : (o : Op) → i.op ≡ o → results_of o ≡ OneResult → (v : ValueId) × (i.results ≡ v ∷ [])
  one_result o is one = no_more i.results (subst (λ x. is_count_by x (given_by o d i) (length i.results) ≡ true) one (counted_by o is))

  -- the type that is written at the one operand
  one_typed : (o : Operand) (w : TypeName) → i.operands ≡ o ∷ [] → written 0 i ≡ Some w → IsOne i o w
  one_typed o w only is = record { only = only; typed = ap (λ os. option_and_then type_of (slice_get os 0)) (sym only) ∙ is }

  -- a nontrivial value at the place that is written
  counted_at : (n : ℕ) (place : Operand) → option_and_then type_of (Some place) ≡ written n i → (t : TypeName) → option_and_then target (written n i) ≡ Some t
      → is_nontrivial d t ≡ true
      → (p : TypeName) × IsCounted d place p t
  counted_at n place is t e nontrivial =
      let behind = found_behind target (written n i) t e in
      (behind.0, record { typed = is ∙ behind.1; at = behind.2; nontrivial = nontrivial })

  module _ (s : ValueId) where
    module _ (o : Op) (is : i.op ≡ o) (one : (x : Operand) × (i.operands ≡ x ∷ [])) where
      -- a load, where the row gives what is at the place
      load_of : results_of o ≡ OneResult → (p t : TypeName) → written 0 i ≡ Some p → object_at p ≡ Some t → given_by o d i ≡ Some (t ∷ [])
          → (v : ValueId) × IsLoad d i one.0 p t v
      load_of result p t at there given =
          let v = one_result o is result in
          (v.0, record { one = one_typed one.0 p one.1 at; at = there; result = v.1; row = subst (λ x. given_by x d i ≡ Some (t ∷ [])) (sym is) given })

    is_load : i.op ≡ op.Load → (place : Operand) × (p t : TypeName) × (v : ValueId) × IsLoad d i place p t v
    is_load is =
        let one = one_operand is_typed i.operands (operands_by op.Load is) in
        let it = mapped_some (λ ty. ty ∷ []) (option_and_then object_at (written 0 i)) (keeps_by op.Load is) in
        let p = found_behind object_at (written 0 i) it.0 it.1 in
        let load = load_of op.Load is (one.0, one.1) refl p.0 it.0 p.1 p.2 (ap gives it.1) in
        (one.0, p.0, it.0, load.0, load.1)

    is_borrow : i.op ≡ op.LoadBorrow → (place : Operand) × (p t : TypeName) × (v : ValueId) × IsLoad d i place p t v
    is_borrow is =
        let one = one_operand is_typed i.operands (operands_by op.LoadBorrow is) in
        let it = mapped_some (λ ty. ty ∷ []) (where_it (is_nontrivial d) (option_and_then target (written 0 i))) (keeps_by op.LoadBorrow is) in
        let at = where_found (is_nontrivial d) (option_and_then target (written 0 i)) it.0 it.1 in
        let p = found_behind target (written 0 i) it.0 at.0 in
        let object = (and_parts (is_object it.0) _ at.1).0 in
        let load = load_of op.LoadBorrow is (one.0, one.1) refl p.0 it.0 p.1 (object_there p.0 it.0 p.2 object) (ap gives it.1) in
        (one.0, p.0, it.0, load.0, load.1)

    just_loads : ((place : Operand) × (p t : TypeName) × (v : ValueId) × IsLoad d i place p t v) → Becomes d i s (plain_load i ∷ [])
    just_loads l = loads l.0 l.1 l.2 l.3 l.4

    -- `[copy]`, which is for types that aren't trivial
    load_by : i.op ≡ op.Load → (q : Qualifier) → i.qualifier ≡ q → Becomes d i s (loads_by d s q i)
    load_by is word.Plain q = just_loads (is_load is)
    load_by is word.Copy q =
        let l = is_load is in
        let place = l.0 in
        let v = l.3 in
        let load : IsLoad d i place l.1 l.2 v = l.4 in
        let fits : passes (is_read_word d word.Copy) (option_and_then target (written 0 i)) ≡ true =
        subst (λ x. passes (is_read_word d x) (option_and_then target (written 0 i)) ≡ true) q (word_by op.Load is) in
        let it = passed (is_read_word d word.Copy) (option_and_then target (written 0 i)) fits in
        let at = where_found is_object (target l.1) l.2 load.at in
        let same : it.0 ≡ l.2 =
        some_same it.0 l.2
        (sym it.1
        ∙ ap (λ os. option_and_then target (option_and_then type_of (slice_get os 0))) load.one.only
        ∙ ap (option_and_then target) load.one.typed ∙ at.0) in
        subst (λ (os : List Operand). Becomes d i s (plain_load i ∷ flat_map (retains_loaded d s i.results) (option_to_list (slice_get os 0))))
        (sym load.one.only)
        (subst (λ (vs : List ValueId). Becomes d i s (plain_load i ∷ (retains_loaded d s vs place ++ []))) (sym load.result)
        (copies place l.1 l.2 v load (record { typed = load.one.typed; at = at.0; nontrivial = subst (λ t. is_nontrivial d t ≡ true) same it.2 })))
      where
        some_same : (a b : TypeName) → Some a ≡ Some b → a ≡ b
        some_same a b e = cc
    load_by is word.Take q = just_loads (is_load is)
    load_by is word.Trivial q = just_loads (is_load is)
    load_by is word.Init q = just_loads (is_load is)
    load_by is word.Assign q = just_loads (is_load is)

    store_by : i.op ≡ op.Store → (q : Qualifier) → i.qualifier ≡ q → Becomes d i s (stores_by d s q i)
    store_by is word.Plain q = stores is
    store_by is word.Copy q = stores is
    store_by is word.Take q = stores is
    store_by is word.Trivial q = stores is
    store_by is word.Init q = stores is
    store_by is word.Assign q =
        let two = two_operands is_bare is_typed i.operands (operands_by op.Store is) in
        let x = two.0 in
        let place = two.1 in
        let fits : passes (is_write_word d word.Assign) (option_and_then target (written 1 i)) ≡ true =
        subst (λ y. passes (is_write_word d y) (option_and_then target (written 1 i)) ≡ true) q (word_by op.Store is) in
        let it = passed (is_write_word d word.Assign) (option_and_then target (written 1 i)) fits in
        let counted = counted_at 1 place (ap (λ os. option_and_then type_of (slice_get os 1)) (sym two.2)) it.0 it.1 it.2 in
        subst (λ (os : List Operand). Becomes d i s (flat_map (λ (y : Operand). loads_spare d s y ∷ plain_store i ∷ releases_spare d s y ∷ [])
        (option_to_list (slice_get os 1)))) (sym two.2)
        (assigns x place counted.0 it.0 is two.2 counted.1)

    destroy_by : i.op ≡ op.DestroyAddr → (b : Bool) → is_at_storage i ≡ b → Becomes d i s (destroys_by d s b i)
    destroy_by is true at = at_storage is at
    destroy_by is false at =
        let one = one_operand is_typed i.operands (operands_by op.DestroyAddr is) in
        let it = taken_type (where_it (λ t. is_nontrivial d t || is_storage t) (option_and_then target (written 0 i))) (keeps_by op.DestroyAddr is) in
        let found = where_found (λ t. is_nontrivial d t || is_storage t) (option_and_then target (written 0 i)) it.0 it.1 in
        let not_stored : is_storage it.0 ≡ false = subst (λ w. passes is_storage w ≡ false) found.0 at in
        let counted =
        counted_at 0 one.0 (ap (λ os. option_and_then type_of (slice_get os 0)) (sym one.1)) it.0 found.0
        (first_holds (is_nontrivial d it.0) (is_storage it.0) not_stored found.1) in
        subst (λ (os : List Operand). Becomes d i s (flat_map (λ (y : Operand). loads_spare d s y ∷ releases_spare d s y ∷ []) os)) (sym one.1)
        (destroys one.0 counted.0 it.0 is one.1 counted.1)
      where
        first_holds : (a b : Bool) → b ≡ false → (a || b) ≡ true → a ≡ true
        first_holds true b h e = refl
        first_holds false b h e = cc

    -- as many results as the row gives
    counted_list : (o : Op) → i.op ≡ o → results_of o ≡ ResultList → (ts : List TypeName) → given_by o d i ≡ Some ts → length ts ≡ length i.results
    counted_list o is many ts given =
        let by_row = subst (λ r. is_count_by r (given_by o d i) (length i.results) ≡ true) many (counted_by o is) in
        eqb-true (length ts) (length i.results) (subst (λ g. is_count_of g (length i.results) ≡ true) given by_row)

    taken_apart : i.op ≡ op.DestructureStruct → (o : Operand) (t : TypeName) (fs : List Field) → IsOne i o t → (struct : IsStruct d t fs)
        → length fs ≡ length i.results
        → Becomes d i s (flat_map (extracts_fields d i.results) i.operands)
    taken_apart is o t fs one struct size =
        let extracts : flat_map (extracts_fields d i.results) i.operands ≡ field_extracts o (map (member_of struct.name) fs) i.results =
        ap (λ os. flat_map (extracts_fields d i.results) os) one.only
        ∙ append-nil (extracts_fields d i.results o)
        ∙ ap (λ w. field_extracts o (flat_map (members_of_struct d) (option_to_list w)) i.results) one.typed
        ∙ ap (λ x. field_extracts o x i.results) (append-nil (members_of_struct d t) ∙ struct.members) in
        subst (Becomes d i s) (sym extracts) (by_fields o t fs struct is one size)

    how : (o : Op) → i.op ≡ o → Becomes d i s (becomes_by d s (lowering_of o) i)
    how op.CopyValue is =
        let one = one_operand is_typed i.operands (operands_by op.CopyValue is) in
        let it = mapped_some (λ ty. ty ∷ []) (where_it (is_nontrivial d) (written 0 i)) (keeps_by op.CopyValue is) in
        let found = where_found (is_nontrivial d) (written 0 i) it.0 it.1 in
        subst (λ (os : List Operand). Becomes d i s (map (retain d) os)) (sym one.1) (retains one.0 it.0 (one_typed one.0 it.0 one.1 found.0) found.1)
    how op.DestroyValue is =
        let one = one_operand is_typed i.operands (operands_by op.DestroyValue is) in
        let it = taken_type (where_it (is_nontrivial d) (written 0 i)) (keeps_by op.DestroyValue is) in
        let found = where_found (is_nontrivial d) (written 0 i) it.0 it.1 in
        subst (λ (os : List Operand). Becomes d i s (map (release d) os)) (sym one.1) (releases one.0 it.0 (one_typed one.0 it.0 one.1 found.0) found.1)
    how op.MoveValue is = vanishes
    how op.BeginBorrow is = vanishes
    how op.EndBorrow is = vanishes
    how op.Load is = load_by is i.qualifier refl
    how op.Store is = store_by is i.qualifier refl
    how op.LoadBorrow is = borrow_by i.qualifier refl
      where
        borrow_by : (q : Qualifier) → i.qualifier ≡ q → Becomes d i s (loads_by d s q i)
        borrow_by word.Plain q = just_loads (is_borrow is)
        borrow_by word.Copy q =
            let none : may_have op.LoadBorrow word.Copy ≡ true =
            subst (λ x. may_have op.LoadBorrow x ≡ true) q (subst (λ o. may_have o i.qualifier ≡ true) is sound.parts.qualifier) in
            cc
        borrow_by word.Take q = just_loads (is_borrow is)
        borrow_by word.Trivial q = just_loads (is_borrow is)
        borrow_by word.Init q = just_loads (is_borrow is)
        borrow_by word.Assign q = just_loads (is_borrow is)
    how op.DestroyAddr is = destroy_by is (is_at_storage i) refl
    how op.DestructureStruct is =
        let one = one_operand is_typed i.operands (operands_by op.DestructureStruct is) in
        let ts = some_of (option_and_then (all_fields d) (written 0 i)) (keeps_by op.DestructureStruct is) in
        let at = found_behind (all_fields d) (written 0 i) ts.0 ts.1 in
        let fs = mapped_from (map field_type) (fields_of_struct d at.0) ts.0 at.2 in
        let count : length ts.0 ≡ length i.results = counted_list op.DestructureStruct is refl ts.0 ts.1 in
        let long : length (map field_type fs.0) ≡ length fs.0 = length-map fs.0 field_type in
        let all : length (map field_type fs.0) ≡ length ts.0 = ap length fs.2 in
        taken_apart is one.0 at.0 fs.0 (one_typed one.0 at.0 one.1 at.1) (struct_is d at.0 fs.0 fs.1) (omega arith)
    how op.DestructureTuple is =
        let one = one_operand is_typed i.operands (operands_by op.DestructureTuple is) in
        let ts = some_of (option_and_then elements (written 0 i)) (keeps_by op.DestructureTuple is) in
        let at = found_behind elements (written 0 i) ts.0 ts.1 in
        subst (Becomes d i s) (sym (ap (λ os. flat_map (extracts_elements i.results) os) one.1 ∙ append-nil _))
        (by_elements one.0 at.0 ts.0 is (one_typed one.0 at.0 one.1 at.1) at.2 (counted_list op.DestructureTuple is refl ts.0 ts.1))
    how _ is = stays (ap lowering_of is)

    pub becomes_so : Becomes d i s (becomes d s i)
    becomes_so = how i.op refl
