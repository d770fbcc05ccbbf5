-- What is known of the instructions of a function that can be lowered: their operands by their rows, and which of their results keep their names.
use Rattle.std.proofs.Common.{◌≡◌, ℕ, zero, suc, List, [], ◌∷◌, length, map, replicate, refl, sym, ap, ◌∙◌, subst, Bool, true, false, not, cond, Some}
use Rattle.std.specs.Prelude.{◌||◌, filter, is_some, slice_get, unwrap_or}
use Rattle.std.proofs.lemmas.Bool.{and_parts}
use Rattle.std.proofs.lemmas.List.{length-map, length-replicate}
use Rattle.instruction_table.specs.declared.forms.Part.TheVariants as part
use Rattle.instruction_table.specs.declared.op.Op.{Op}
use Rattle.sil_ast.specs.declared.function.Block.{Block}
use Rattle.sil_ast.specs.declared.function.Function.{Function}
use Rattle.sil_ast.specs.declared.inst.Inst.{Inst}
use Rattle.sil_ast.specs.declared.operands.Operand.{Operand}
use Rattle.sil_ast.specs.declared.place.ValueId.{ValueId}
use Rattle.numbered_form.specs.Lists.{Each}
use Rattle.numbered_form.specs.inner.Parts.{IsTerminator, are_of_parts, has_operands, is_bare, is_typed}
use Rattle.ownership_kinds_chains.specs.OwnershipChains.Chains.{operands_at}
use Rattle.ownership_kinds_chains.specs.declared.ownership_chains.definition.Definition.{Definition}
use Rattle.ownership_kinds.specs.ownership_kinds_origins.Renamings.{arg_renaming, arg_renamings, renamed, renames, renamings_of, result_renamings}
use Rattle.ownership_kinds.specs.ownership_kinds_origins.Switched.{switch_to}
use Rattle.numbered_form.specs.ValueTables.FirstValue.{value_of}
use Rattle.sil_types_declarations.specs.TypeDefinitions.Declarations.{Declarations}
use Rattle.numbered_form.specs.PointChecks.Points.{IsAt}
use Rattle.ownership_lowering_model.specs.Names.{is_other_name}
use Rattle.holder_model_typing.proofs.RunTypingLaws.Rows.Tables.{row_at, told_of_results}
use Rattle.ownership_lowering_laws.specs.LoweringLaws.inner.Lowerable.{IsLowerable, IsLowerableBlock, IsLowerableInst}
use Rattle.holder_model_typing.proofs.RunTypingLaws.Declared.{each_from}
use Rattle.numbered_form.proofs.Lists.{each_weaker, empty_is}
use Rattle.holder_model_typing.proofs.RunTypingLaws.Rows.Finding.{each_at}
use Rattle.holder_model_typing.proofs.RunTypingLaws.Rows.Points.{in_front}
use Rattle.holder_model_typing.proofs.RunTypingLaws.Rows.Shares.{of_parts}

-- the value has a name of its own
abbrev pub has_name : List Definition → ValueId → Bool
has_name renamings v = not (is_other_name renamings v)

-- the values of which an instruction's results are other names
abbrev pub names_in : Inst → List ValueId
names_in i = cond (renames i.op) (map value_of i.operands) []

pub record Known (d : Declarations) (f : Function) (i : Inst) : Type 0 where
  pub lowerable : IsLowerableInst d i
  pub named : Each (λ v. is_other_name (renamings_of f) v ≡ is_some (slice_get (names_in i) 0)) i.results

pub record KnownBlock (d : Declarations) (f : Function) (b : Block) : Type 0 where
  pub insts : Each (Known d f) b.insts
  pub terminator : IsTerminator b.terminator

-- ---- the names of results

operands_in_row : (defs : List Definition) (v : ValueId) → operands_at defs v ≡ (row_at (renamed []) defs v).operands
operands_in_row defs v = at defs v.0
  where
    at : (defs : List Definition) (n : ℕ) → unwrap_or (slice_get (map (λ x. x.operands) defs) n) [] ≡ (unwrap_or (slice_get defs n) (renamed [])).operands
    at [] zero = refl
    at [] (suc n) = refl
    at (x ∷ defs) zero = refl
    at (x ∷ defs) (suc n) = at defs n

each_alike : (g : ValueId → Definition) (x : Definition) (vs : List ValueId) → map g vs ≡ replicate (length vs) x → Each (λ v. g v ≡ x) vs
each_alike g x [] e = tt
each_alike g x (v ∷ vs) e = (cc, each_alike g x vs (cc))

module _ (functions : ℕ) (d : Declarations) (f : Function) (l : IsLowerable functions d f) where
  module _ (n : ℕ) (b : Block) (is_block : slice_get f.blocks n ≡ Some b) where
    known_at : (k : ℕ) (i : Inst) → slice_get b.insts k ≡ Some i → Known d f i
    known_at k i is_inst =
        let here : IsAt f n k i = record { within = b; is_block = is_block; is_inst = in_front b.insts (b.terminator ∷ []) k i is_inst } in
        let rows = told_of_results (arg_renamings f) result_renamings (λ n xs. length-map xs (arg_renaming (switch_to f n)))
        (λ j. length-replicate (length j.results) (renamed (names_in j))) (renamed []) f l.numbered.values n k i here in
        record {
          lowerable = each_at (IsLowerableInst d) b.insts k i (each_at (IsLowerableBlock d) f.blocks n b l.blocks is_block).insts is_inst;
          named = each_weaker (λ v. row_at (renamed []) (renamings_of f) v ≡ renamed (names_in i))
              (λ v. is_other_name (renamings_of f) v ≡ is_some (slice_get (names_in i) 0))
              (λ v e. ap (λ vs. is_some (slice_get vs 0)) (operands_in_row (renamings_of f) v ∙ ap (λ x. x.operands) e)) i.results
              (each_alike (row_at (renamed []) (renamings_of f)) (renamed (names_in i)) i.results rows);
        }

    known_block : KnownBlock d f b
    known_block = record {
      insts = each_from (Known d f) b.insts known_at;
      terminator = (each_at (IsLowerableBlock d) f.blocks n b l.blocks is_block).terminator;
    }

  pub known_blocks : Each (KnownBlock d f) f.blocks
  known_blocks = each_from (KnownBlock d f) f.blocks known_block

-- ---- the results that keep their names

kept_all : (test : ValueId → Bool) (vs : List ValueId) → Each (λ v. test v ≡ true) vs → filter test vs ≡ vs
kept_all test [] h = refl
kept_all test (v ∷ vs) h = ap (λ b. cond b (v ∷ filter test vs) (filter test vs)) h.0 ∙ ap (λ ws. v ∷ ws) (kept_all test vs h.1)

kept_none : (test : ValueId → Bool) (vs : List ValueId) → Each (λ v. test v ≡ false) vs → filter test vs ≡ []
kept_none test [] h = refl
kept_none test (v ∷ vs) h = ap (λ b. cond b (v ∷ filter test vs) (filter test vs)) h.0 ∙ kept_none test vs h.1

module _ (d : Declarations) (f : Function) (i : Inst) (k : Known d f i) where
  abbrev Renamed : Bool → Type 0
  Renamed b = Each (λ v. is_other_name (renamings_of f) v ≡ b) i.results

  pub kept : renames i.op ≡ false → filter (has_name (renamings_of f)) i.results ≡ i.results
  kept e =
      let none : Renamed false = subst (λ b. Renamed (is_some (slice_get (cond b (map value_of i.operands) []) 0))) e k.named in
      kept_all (has_name (renamings_of f)) i.results
      (each_weaker (λ v. is_other_name (renamings_of f) v ≡ false) (λ v. has_name (renamings_of f) v ≡ true) (λ v h. ap not h) i.results none)

  pub gone : renames i.op ≡ true → (x : Operand) → i.operands ≡ x ∷ [] → filter (has_name (renamings_of f)) i.results ≡ []
  gone e x is =
      let some : Renamed true =
      subst (λ os. Renamed (is_some (slice_get (map value_of os) 0))) is
      (subst (λ b. Renamed (is_some (slice_get (cond b (map value_of i.operands) []) 0))) e k.named) in
      kept_none (has_name (renamings_of f)) i.results
      (each_weaker (λ v. is_other_name (renamings_of f) v ≡ true) (λ v. has_name (renamings_of f) v ≡ false) (λ v h. ap not h) i.results some)

-- ---- operands by their row

-- an operand that has a type, and it alone
pub record OneTyped (os : List Operand) : Type 0 where
  pub operand : Operand
  pub only : os ≡ operand ∷ []
  pub typed : is_typed operand ≡ true

-- an operand without a type, and one behind it that has one
pub record ThenTyped (os : List Operand) : Type 0 where
  pub bare : Operand
  pub operand : Operand
  pub both : os ≡ bare ∷ operand ∷ []
  pub typed : is_typed operand ≡ true

one_typed : (os : List Operand) → are_of_parts (part.Typed ∷ []) os ≡ true → OneTyped os
one_typed [] e = absurd (cc)
one_typed (o ∷ os) e =
    let both = and_parts (is_typed o) (are_of_parts [] os) e in
    record { operand = o; only = ap (λ xs. o ∷ xs) (empty_is os both.1); typed = both.0 }

then_typed : (os : List Operand) → are_of_parts (part.Bare ∷ part.Typed ∷ []) os ≡ true → ThenTyped os
then_typed [] e = absurd (cc)
then_typed (o ∷ os) e =
    let it = one_typed os (and_parts (is_bare o) (are_of_parts (part.Typed ∷ []) os) e).1 in
    record { bare = o; operand = it.operand; both = ap (λ xs. o ∷ xs) it.only; typed = it.typed }

module _ (d : Declarations) (f : Function) (i : Inst) (k : Known d f i) (o : Op) (e : i.op ≡ o) where
  has_row : has_operands o i.operands ≡ true
  has_row = subst (λ x. has_operands x i.operands ≡ true) e k.lowerable.inside.parts.operands

  -- in a row of one operand
  pub one_operand : ((os : List Operand) → has_operands o os ≡ (are_of_parts (part.Typed ∷ []) os || false)) → OneTyped i.operands
  one_operand row = one_typed i.operands (of_parts _ (sym (row i.operands) ∙ has_row))

  -- in a row of a value and a place
  pub two_operands : ((os : List Operand) → has_operands o os ≡ (are_of_parts (part.Bare ∷ part.Typed ∷ []) os || false)) → ThenTyped i.operands
  two_operands row = then_typed i.operands (of_parts _ (sym (row i.operands) ∙ has_row))
