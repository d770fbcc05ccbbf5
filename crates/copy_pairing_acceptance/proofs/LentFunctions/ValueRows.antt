-- The row of a value of a function in which a copy is lent: that of the function's value, but for the copy itself.
use Rattle.std.proofs.Common.{◌≡◌, ℕ, zero, suc, ◌<◌, List, [], ◌∷◌, ◌++◌, length, map, replicate, ◌≤◌, ◌⊎◌, inl, inr, refl, sym, ap, ◌∙◌, subst, arith, Bool, Option, Some, None, true, false}
use Rattle.std.specs.Prelude.{◌||◌, ◌==◌, ◌&&◌, Contains, cond, if◌then◌else◌, option_map, slice_get, unwrap_or}
use Rattle.std.specs.List.{range_with_len}
use Rattle.std.proofs.lemmas.Bool.{cases_lt, eq-eqb, eqb-true, le-ltb}
use Rattle.std.proofs.lemmas.List.{length-map, length-replicate}
use Rattle.std.proofs.lemmas.List.FromFn.{length-map-range_with_len}
use Rattle.std.proofs.lemmas.Option.{same_Some, slice_get-map}
use Rattle.instruction_table.specs.Forms.{result_kind_of}
use Rattle.instruction_table.specs.declared.op.Op.TheVariants as op
use Rattle.sil_cfg_items.specs.Parts.{inst_in, terminator_in}
use Rattle.numbered_form.specs.Insts.{insts_of}
use Rattle.numbered_form.specs.Lists.{Each}
use Rattle.numbered_form.specs.Numbering.{AreCountedFrom, value_of, values_of}
use Rattle.ownership_kinds_chains.specs.OwnershipChains.Chains.{operands_at}
use Rattle.ownership_kinds_chains.specs.OwnershipChains.Steps.{told_in}
use Rattle.ownership_kinds_chains.specs.OwnershipChains.Facts.{AreFactsOf, facts_with, has, origin_at, told, told_by}
use Rattle.ownership_kinds_chains.specs.declared.ownership_chains.definition.Definition.{Definition}
use Rattle.ownership_kinds_chains.specs.declared.ownership_chains.definition.Origin.TheVariants as origin
use Rattle.ownership_kinds_chains.specs.declared.ownership_chains.facts.Facts.{Facts}
use Rattle.copy_pairing_model.specs.ownership_kinds_origins.Facts.{facts_in}
use Rattle.sil_verifier_trails.specs.ownership_kinds.Statics.{IsDefinedAt, argument, result}
use Rattle.copy_pairing_model.proofs.ownership_kinds_origins.Counts.{are_of_values}
use Rattle.copy_pairing_model.specs.ownership_kinds_origins.Origins.{arg_definition, arg_definitions, defined, definitions_of, is_trivial_or_untyped, is_zero}
use Rattle.copy_pairing_model.specs.ownership_kinds_origins.Origins.{result_definition, result_definition_by, result_definitions, unless_trivial}
use Rattle.copy_pairing_model.specs.ownership_kinds_origins.Switched.{switch_to}
use Rattle.numbered_form.specs.PointChecks.Points.{IsAt}
use Rattle.sil_verifier_trails.proofs.holder_model_typing.RunTypingLaws.Rows.Tables.{row_at, told_of_args, told_of_results}
use Rattle.sil_ast.specs.declared.function.Block.{Block}
use Rattle.sil_ast.specs.declared.function.BlockArg.{BlockArg}
use Rattle.sil_ast.specs.declared.function.Function.{Function}
use Rattle.sil_ast.specs.declared.inst.Inst.{Inst}
use Rattle.sil_ast.specs.declared.place.PointId.{PointId}
use Rattle.sil_ast.specs.declared.place.ValueId.{ValueId}
use Rattle.sil_types.specs.Typing.RowTypes.{given_by, made_types}
use Rattle.sil_types_declarations.specs.TypeDefinitions.Declarations.{Declarations}
use Rattle.sil_types_declarations.specs.declared.type_definitions.kind.Kind.TheVariants as kind
use Rattle.numbered_form.specs.ValueTables.Borrows.{arg_borrows, borrow_at, borrow_by, borrow_in, borrows_of, result_borrows}
use Rattle.numbered_form.specs.ValueTables.FirstValue.{value_of as operand_value}
use Rattle.numbered_form.specs.ValueTables.ValueRows.{value_rows}
use Rattle.numbered_form.specs.declared.value_tables.borrows.Borrow.TheVariants.{NoBorrow, OfValue}
use Rattle.copy_pairing_model.specs.Copies.{is_op}
use Rattle.copy_pairing_model.specs.Rewritten.{lent, lent_block, lent_inst, makes, takes, with_op}
use Rattle.copy_pairing_acceptance.proofs.LentFunctions.Graph.{block_lent}
use Rattle.copy_pairing_acceptance.proofs.LentFunctions.Insts.{Becomes, becomes, borrows, ends, op_is, stays}
use Rattle.copy_pairing_acceptance.proofs.LentFunctions.Lists.{each_in, each_unmap, same_each}
use Rattle.copy_pairing_acceptance.proofs.LentFunctions.Parts.{inst_results, insts_lent, terminator_stays, values_lent}
use Rattle.copy_pairing_acceptance.proofs.LentFunctions.Ready.{IsFormed, IsValue, Ready}
use Rattle.copy_pairing_acceptance.proofs.LentFunctions.Rows.{arg_rows_lent}

pub same_value : (a b : ValueId) → a.0 ≡ b.0 → a ≡ b
same_value a b e = ap (λ (n : ℕ). let v : ValueId = record { 0 = n } in v) e

-- a column of a table has what the row has there
pub in_column : {A B : Type 0} (g : A → B) (x : A) (rows : List A) (n : ℕ) → unwrap_or (slice_get (map g rows) n) (g x) ≡ g (unwrap_or (slice_get rows n) x)
in_column g x [] n = refl
in_column g x (y ∷ rows) zero = refl
in_column g x (y ∷ rows) (suc n) = in_column g x rows n

-- ---- what stands at a place

module _ (c : ValueId) (f : Function) (formed : IsFormed f) where
  pub end_stays : (n : ℕ) (b : Block) → slice_get f.blocks n ≡ Some b → lent_inst c b.terminator ≡ b.terminator
  end_stays n b e = terminator_stays c b.terminator (formed.ends n b.terminator (ap terminator_in e)).ends

  pub block_there : (n : ℕ) (b : Block) → slice_get f.blocks n ≡ Some b → slice_get (lent c f).blocks n ≡ Some (lent_block c b)
  block_there n b e = block_lent c f n ∙ ap (option_map (lent_block c)) e

  pub at_lent : (n k : ℕ) (i : Inst) → IsAt f n k i → IsAt (lent c f) n k (lent_inst c i)
  at_lent n k i at = record {
    within = lent_block c at.within;
    is_block = block_there n at.within at.is_block;
    is_inst = ap (λ is. slice_get is k) (insts_lent c at.within (end_stays n at.within at.is_block))
        ∙ slice_get-map (lent_inst c) (insts_of at.within) k ∙ ap (option_map (lent_inst c)) at.is_inst;
  }

  -- and each instruction of the function in which the copy is lent comes from one
  pub record ComesFrom (n k : ℕ) (j : Inst) : Type 0 where
    pub inst : Inst
    pub at : IsAt f n k inst
    pub is : j ≡ lent_inst c inst

  mapped : {A B : Type 0} (g : A → B) (o : Option A) (y : B) → option_map g o ≡ Some y → (x : A) × (o ≡ Some x) × (y ≡ g x)
  mapped g None y e = absurd (let wrong : None ≡ Some y = e in cc)
  mapped g (Some x) y e = (x, refl, cc)

  pub comes_from : (n k : ℕ) (j : Inst) → IsAt (lent c f) n k j → ComesFrom n k j
  comes_from n k j at =
      let b = mapped (lent_block c) (slice_get f.blocks n) at.within (sym (block_lent c f n) ∙ at.is_block) in
      let found : slice_get (map (lent_inst c) (insts_of b.0)) k ≡ Some j =
      ap (λ is. slice_get is k) (sym (insts_lent c b.0 (end_stays n b.0 b.1)) ∙ ap insts_of (sym b.2)) ∙ at.is_inst in
      let i = mapped (lent_inst c) (slice_get (insts_of b.0) k) j (sym (slice_get-map (lent_inst c) (insts_of b.0) k) ∙ found) in
      record { inst = i.0; at = record { within = b.0; is_block = b.1; is_inst = i.1 }; is = i.2 }

  pub counted_lent : AreCountedFrom 0 (values_of (lent c f).blocks)
  counted_lent = subst (AreCountedFrom 0) (sym (values_lent c f)) formed.counted

  -- ---- a copy that makes c makes nothing else

  one_made : (rs : List ValueId) → length rs ≡ 1 → has rs c.0 ≡ true → Each (λ x. x.0 ≡ c.0) rs
  one_made [] e h = absurd (omega arith)
  one_made (x ∷ []) e h = (eqb-true x.0 c.0 (first (x.0 == c.0) h), tt)
    where
      first : (a : Bool) → (a || false) ≡ true → a ≡ true
      first true e = refl
      first false e = e
  one_made (x ∷ y ∷ rs) e h = absurd (omega arith)

  -- ---- tables

  module _ {A : Type 0} (none : A) (args : ℕ → List BlockArg → List A) (results : Inst → List A)
      (of_args : (n : ℕ) (xs : List BlockArg) → length (args n xs) ≡ length xs) (of_results : (i : Inst) → length (results i) ≡ length i.results) where
    abbrev rows : List A
    rows = value_rows args results f

    abbrev lent_rows : List A
    lent_rows = value_rows args results (lent c f)

    -- what holds of the rows of each instruction and of each block holds of each value's
    pub of_rows : (P : A → Type 0) → ((n k : ℕ) (i : Inst) → IsAt f n k i → Each P (results i)) → ((n : ℕ) (b : Block) → slice_get f.blocks n ≡ Some b → Each P (args n b.args))
        → (w : ValueId) → IsValue f w → P (row_at none rows w)
    of_rows P insts blocks w lt = let place = formed.defined w lt in by place.0 place.1 place.2
      where
        by : (n k : ℕ) → IsDefinedAt f w n k → P (row_at none rows w)
        by _ _ (result n k i at h) =
            each_in (λ x. P (row_at none rows x)) i.results w
            (each_unmap P (row_at none rows) i.results
            (subst (Each P) (sym (told_of_results args results of_args of_results none f formed.counted n k i at)) (insts n k i at))) h
        by _ _ (argument n b a is h e) =
            subst (λ x. P (row_at none rows x)) e
            (each_in (λ (x : BlockArg). P (row_at none rows x.value)) b.args a
            (each_unmap (λ x. P (row_at none rows x)) value_of b.args
            (each_unmap P (row_at none rows) (map value_of b.args)
            (subst (Each P) (sym (told_of_args args results of_args of_results none f formed.counted n b is)) (blocks n b is)))) h)

    -- a value other than the copy has the row that it had
    pub row_kept : ((i : Inst) → i.op ≡ op.DestroyValue → results (with_op op.EndBorrow i) ≡ results i)
        → (w : ValueId) → IsValue f w → (w.0 ≡ c.0 → ⊥) → row_at none lent_rows w ≡ row_at none rows w
    row_kept ended w lt apart = let place = formed.defined w lt in by place.0 place.1 place.2
      where
        same_results : (n k : ℕ) (i j : Inst) → IsAt f n k i → Contains i.results w → Becomes c i j → results j ≡ results i
        same_results n k i _ at h (borrows e m) =
            absurd (apart (each_in (λ x. x.0 ≡ c.0) i.results w (one_made i.results (formed.one_result n k i at e) m) h))
        same_results n k i _ at h (ends e m) = ended i e
        same_results n k i _ at h (stays e m) = refl

        by : (n k : ℕ) → IsDefinedAt f w n k → row_at none lent_rows w ≡ row_at none rows w
        by _ _ (result n k i at h) =
            each_in (λ x. row_at none lent_rows x ≡ row_at none rows x) i.results w
            (same_each (row_at none lent_rows) (row_at none rows) i.results
            (ap (map (row_at none lent_rows)) (sym (inst_results c i))
            ∙ told_of_results args results of_args of_results none (lent c f) counted_lent n k (lent_inst c i) (at_lent n k i at)
            ∙ same_results n k i (lent_inst c i) at h (becomes c i)
            ∙ sym (told_of_results args results of_args of_results none f formed.counted n k i at))) h
        by _ _ (argument n b a is h e) =
            subst (λ x. row_at none lent_rows x ≡ row_at none rows x) e
            (each_in (λ (x : BlockArg). row_at none lent_rows x.value ≡ row_at none rows x.value) b.args a
            (each_unmap (λ x. row_at none lent_rows x ≡ row_at none rows x) value_of b.args
            (same_each (row_at none lent_rows) (row_at none rows) (map value_of b.args)
            (told_of_args args results of_args of_results none (lent c f) counted_lent n (lent_block c b) (block_there n b is)
            ∙ sym (told_of_args args results of_args of_results none f formed.counted n b is)))) h)

-- ---- definitions and borrows

abbrev pub none : Definition
none = defined origin.Plain []

pub args_level : (d : Declarations) (f : Function) (n : ℕ) (xs : List BlockArg) → length (arg_definitions d f n xs) ≡ length xs
args_level d f n xs = length-map xs (arg_definition d (is_zero n) (switch_to f n))

pub results_level : (d : Declarations) (i : Inst) → length (result_definitions d i) ≡ length i.results
results_level d i = length-map-range_with_len (result_definition d i) 0 (length i.results)

pub borrows_level : (n : ℕ) (xs : List BlockArg) → length (arg_borrows n xs) ≡ length xs
borrows_level n xs = length-replicate (length xs) NoBorrow

pub borrowed_level : (i : Inst) → length (result_borrows i) ≡ length i.results
borrowed_level i = length-replicate (length i.results) (borrow_by (result_kind_of i.op) i)

pub origin_in : (d : Declarations) (g : Function) (w : ValueId) → origin_at (definitions_of d g) w ≡ (row_at none (definitions_of d g) w).origin
origin_in d g w = in_column (λ (x : Definition). x.origin) none (definitions_of d g) w.0

all_same : {A : Type 0} (p q : ℕ → A) → ((k : ℕ) → p k ≡ q k) → (ks : List ℕ) → map p ks ≡ map q ks
all_same p q h [] = refl
all_same p q h (k ∷ ks) = ap (λ xs. p k ∷ xs) (all_same p q h ks) ∙ ap (λ x. x ∷ map q ks) (h k)

ended_row : (d : Declarations) (i : Inst) → i.op ≡ op.DestroyValue → result_definitions d (with_op op.EndBorrow i) ≡ result_definitions d i
ended_row d i e =
    all_same (result_definition d (with_op op.EndBorrow i)) (result_definition d i)
    (λ k. ap (λ o. result_definition_by (result_kind_of o) i (is_trivial_or_untyped d (slice_get (made_types d i) k))) (sym e)) (range_with_len 0 (length i.results))

ended_borrow : (i : Inst) → i.op ≡ op.DestroyValue → result_borrows (with_op op.EndBorrow i) ≡ result_borrows i
ended_borrow i e = ap (λ o. replicate (length i.results) (borrow_by (result_kind_of o) i)) (sym e)

plain_kind : (defs : List Definition) (w : ValueId) (x : Facts) → AreFactsOf defs w x → origin_at defs w ≡ origin.Plain → x.kind ≡ kind.Plain
plain_kind defs w _ (told _ at sub) e = ap (λ o. (told_by (length defs) w at (operands_at defs w) o).kind) e

module _ (d : Declarations) (f : Function) (p : PointId) (c v : ValueId) (r : Ready d f p c v) where
  pub definition_kept : (w : ValueId) → IsValue f w → (w.0 ≡ c.0 → ⊥) → row_at none (definitions_of d (lent c f)) w ≡ row_at none (definitions_of d f) w
  definition_kept w lt apart =
      ap (λ rows. row_at none rows w) (arg_rows_lent c d f)
      ∙ row_kept c f r.formed none (arg_definitions d f) (result_definitions d) (args_level d f) (results_level d) (ended_row d) w lt apart

  pub origin_kept : (w : ValueId) → IsValue f w → (w.0 ≡ c.0 → ⊥) → origin_at (definitions_of d (lent c f)) w ≡ origin_at (definitions_of d f) w
  origin_kept w lt apart = origin_in d (lent c f) w ∙ ap (λ (x : Definition). x.origin) (definition_kept w lt apart) ∙ sym (origin_in d f w)

  pub borrow_kept : (w : ValueId) → IsValue f w → (w.0 ≡ c.0 → ⊥) → borrow_in (borrows_of (lent c f)) w.0 ≡ borrow_in (borrows_of f) w.0
  borrow_kept w lt apart = row_kept c f r.formed NoBorrow arg_borrows result_borrows borrows_level borrowed_level ended_borrow w lt apart

  -- ---- the copy

  abbrev pub copied : Inst
  copied = r.copy.inst

  pub copy_op : copied.op ≡ op.CopyValue
  copy_op = op_is op.CopyValue copied r.copy.copies.copies

  pub copy_at : IsAt f p.block.0 p.index copied
  copy_at = at (slice_get f.blocks p.block.0) refl r.copy.stands
    where
      in_front : (xs : List Inst) (t i : Inst) (k : ℕ) → slice_get xs k ≡ Some i → slice_get (xs ++ t ∷ []) k ≡ Some i
      in_front [] t i k e = absurd (let wrong : None ≡ Some i = e in cc)
      in_front (x ∷ xs) t i zero e = e
      in_front (x ∷ xs) t i (suc k) e = in_front xs t i k e

      at : (o : Option Block) → slice_get f.blocks p.block.0 ≡ o → inst_in o p.index ≡ Some copied → IsAt f p.block.0 p.index copied
      at None e h = absurd (let wrong : None ≡ Some copied = h in cc)
      at (Some b) e h = record { within = b; is_block = e; is_inst = in_front b.insts b.terminator copied p.index h }

  pub copy_made : makes c copied ≡ true
  copy_made = ap (λ rs. has rs c.0) r.copy.copies.result ∙ ap (λ b. b || false) (eq-eqb c.0 c.0 refl)

  pub copy_lent : lent_inst c copied ≡ with_op op.BeginBorrow copied
  copy_lent =
      ap (λ b. cond b (with_op op.BeginBorrow copied) (cond (is_op op.DestroyValue copied && takes c copied) (with_op op.EndBorrow copied) copied))
      (ap (λ b. b && makes c copied) r.copy.copies.copies ∙ copy_made)

  pub borrow_at_copy : IsAt (lent c f) p.block.0 p.index (with_op op.BeginBorrow copied)
  borrow_at_copy = subst (IsAt (lent c f) p.block.0 p.index) copy_lent (at_lent c f r.formed p.block.0 p.index copied copy_at)

  -- the row of the one result of an instruction
  module _ {A : Type 0} (default : A) (args : ℕ → List BlockArg → List A) (results : Inst → List A)
      (of_args : (n : ℕ) (xs : List BlockArg) → length (args n xs) ≡ length xs) (of_results : (i : Inst) → length (results i) ≡ length i.results) where
    one_row : (g : Function) → AreCountedFrom 0 (values_of g.blocks) → (n k : ℕ) (i : Inst) → IsAt g n k i → i.results ≡ c ∷ [] → (y : A) → results i ≡ y ∷ []
        → row_at default (value_rows args results g) c ≡ y
    one_row g counted n k i at e y h =
        let both : row_at default (value_rows args results g) c ∷ [] ≡ y ∷ [] =
        ap (map (row_at default (value_rows args results g))) (sym e) ∙ told_of_results args results of_args of_results default g counted n k i at ∙ h in
        cc

  definitions_of_one : (i : Inst) → i.results ≡ c ∷ [] → result_definitions d i ≡ result_definition d i 0 ∷ []
  definitions_of_one i e = ap (λ (rs : List ValueId). map (result_definition d i) (range_with_len 0 (length rs))) e

  borrows_of_one : (i : Inst) → i.results ≡ c ∷ [] → result_borrows i ≡ borrow_by (result_kind_of i.op) i ∷ []
  borrows_of_one i e = ap (λ (rs : List ValueId). replicate (length rs) (borrow_by (result_kind_of i.op) i)) e

  copy_row : row_at none (definitions_of d f) c ≡ result_definition d copied 0
  copy_row =
      one_row none (arg_definitions d f) (result_definitions d) (args_level d f) (results_level d) f r.formed.counted p.block.0 p.index copied copy_at
      r.copy.copies.result (result_definition d copied 0) (definitions_of_one copied r.copy.copies.result)

  borrow_row : row_at none (definitions_of d (lent c f)) c ≡ result_definition d (with_op op.BeginBorrow copied) 0
  borrow_row =
      one_row none (arg_definitions d (lent c f)) (result_definitions d) (args_level d (lent c f)) (results_level d) (lent c f) (counted_lent c f r.formed) p.block.0 p.index
      (with_op op.BeginBorrow copied) borrow_at_copy
      r.copy.copies.result (result_definition d (with_op op.BeginBorrow copied) 0) (definitions_of_one (with_op op.BeginBorrow copied) r.copy.copies.result)

  abbrev trivial : Bool
  trivial = is_trivial_or_untyped d (slice_get (made_types d copied) 0)

  same_types : made_types d (with_op op.BeginBorrow copied) ≡ made_types d copied
  same_types = ap (λ o. unwrap_or (given_by o d copied) []) (sym copy_op)

  copy_origin : origin_at (definitions_of d f) c ≡ unless_trivial trivial origin.Owned
  copy_origin =
      origin_in d f c ∙ ap (λ (x : Definition). x.origin) copy_row
      ∙ ap (λ o. (result_definition_by (result_kind_of o) copied trivial).origin) copy_op

  borrow_origin : origin_at (definitions_of d (lent c f)) c ≡ unless_trivial trivial origin.Lender
  borrow_origin =
      origin_in d (lent c f) c ∙ ap (λ (x : Definition). x.origin) borrow_row
      ∙ ap (λ ts. unless_trivial (is_trivial_or_untyped d (slice_get ts 0)) origin.Lender) same_types

  pub copy_is_value : IsValue f c
  copy_is_value = at (cases_lt c.0 (length (definitions_of d f)))
    where
      at : (c.0 < length (definitions_of d f)) ⊎ (length (definitions_of d f) ≤ c.0) → IsValue f c
      at (inl lt) = let level : length (definitions_of d f) ≡ length (values_of f.blocks) = (are_of_values d f).0 in omega arith
      at (inr le) =
          let beyond : facts_in d f c ≡ None =
          ap (λ b. if b then told_in (definitions_of d f) (length (definitions_of d f)) c else None) (le-ltb c.0 (length (definitions_of d f)) le) in
          let wrong : None ≡ Some (facts_with kind.Owned (c ∷ [])) = sym beyond ∙ r.owned in
          absurd (cc)

  nontrivial : trivial ≡ false
  nontrivial = at trivial refl
    where
      at : (b : Bool) → trivial ≡ b → trivial ≡ false
      at false e = e
      at true e =
          let x = r.facts.known c copy_is_value in
          let same : x.0 ≡ facts_with kind.Owned (c ∷ []) = same_Some x.0 (facts_with kind.Owned (c ∷ [])) (sym x.1 ∙ r.owned) in
          let wrong : kind.Owned ≡ kind.Plain =
          sym (ap (λ (y : Facts). y.kind) same) ∙ plain_kind (definitions_of d f) c x.0 x.2 (copy_origin ∙ ap (λ b. unless_trivial b origin.Owned) e) in
          absurd (cc)

  pub owned_origin : origin_at (definitions_of d f) c ≡ origin.Owned
  owned_origin = copy_origin ∙ ap (λ b. unless_trivial b origin.Owned) nontrivial

  pub lent_origin : origin_at (definitions_of d (lent c f)) c ≡ origin.Lender
  lent_origin = borrow_origin ∙ ap (λ b. unless_trivial b origin.Lender) nontrivial

  pub no_borrow : borrow_in (borrows_of f) c.0 ≡ NoBorrow
  no_borrow =
      one_row NoBorrow arg_borrows result_borrows borrows_level borrowed_level f r.formed.counted p.block.0 p.index copied copy_at
      r.copy.copies.result (borrow_by (result_kind_of copied.op) copied) (borrows_of_one copied r.copy.copies.result)
      ∙ ap (λ o. borrow_by (result_kind_of o) copied) copy_op

  pub lent_borrow : borrow_in (borrows_of (lent c f)) c.0 ≡ OfValue v
  lent_borrow =
      one_row NoBorrow arg_borrows result_borrows borrows_level borrowed_level (lent c f) (counted_lent c f r.formed) p.block.0 p.index
      (with_op op.BeginBorrow copied) borrow_at_copy
      r.copy.copies.result (borrow_by (result_kind_of op.BeginBorrow) (with_op op.BeginBorrow copied)) (borrows_of_one (with_op op.BeginBorrow copied) r.copy.copies.result)
      ∙ ap (λ os. borrow_at false (option_map operand_value (slice_get os 0))) r.copy.copies.operands
      ∙ ap (λ u. OfValue u) r.copy.copies.copied
