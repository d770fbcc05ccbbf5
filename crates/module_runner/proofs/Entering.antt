-- The function with which a run begins: how it is found, and that a run of the lowered module may start at it.
use Rattle.std.proofs.Common.{◌≡◌, ◌∙◌, ◌<◌, ◌&&◌, ◌⊎◌, inl, inr, ℕ, Bool, true, false, not, true≢false, refl, sym, ap, arith}
use Rattle.std.proofs.Common.{List, [], ◌∷◌, length, get_or, position, Some, None, option_map, slice_get}
use Rattle.std.specs.Prelude.{◌≤◌, ◌^◌, cond, nat_lt}
use Rattle.std.specs.List.{position_or_len}
use Rattle.std.specs.Str.{bytes_eq}
use Rattle.std.proofs.lemmas.Bool.{and_from, and_parts, cases_Bool, ltb-false}
use Rattle.std.proofs.lemmas.List.Quantifiers.{position-Some}
use Rattle.std.proofs.lemmas.List.Sums.{fails_before_first}
use Rattle.std.proofs.lemmas.Option.{get_or_from_slice_get, none-some, slice_get-get_or, slice_get-map, slice_get_within}
use Rattle.std.proofs.lemmas.Slice.Eq.{bytes_eq-Decides}
use Rattle.argument_conventions.specs.Arguments.{arguments_of}
use Rattle.count_machine.specs.LowRuns.{MayStartAt}
use Rattle.holder_model.specs.Frames.{has_any}
use Rattle.holder_model.specs.Outcomes.{may_start}
use Rattle.ownership_lowering_model.specs.LoweredBlocks.{blocks_become}
use Rattle.ownership_lowering_model.specs.LoweredModules.{lowered, lowered_by, lowered_function}
use Rattle.ownership_lowering_model.specs.Numbers.{renumbered}
use Rattle.numbered_form.specs.Names.{Name}
use Rattle.ownership_kinds_chains.specs.declared.ownership_chains.definition.Definition.{Definition}
use Rattle.sil_ast.specs.declared.function.Block.{Block}
use Rattle.sil_ast.specs.declared.function.Form.{Form}
use Rattle.sil_ast.specs.declared.function.Form.TheVariants.{Ossa, Lowered, External}
use Rattle.sil_ast.specs.declared.function.Function.{Function}
use Rattle.sil_ast.specs.declared.module.Module.{Module}
use Rattle.sil_ast.specs.declared.place.FuncId.{FuncId}
use Rattle.sil_ast.specs.declared.place.ValueId.{ValueId}
use Rattle.sil_verifier.specs.sil_verifier_accepted.AcceptedModules.inner.Checked.{IsVerified}
use Rattle.sil_types_declarations.specs.TypeDefinitions.Declarations.{Declarations, declarations_of}
use Rattle.sil_types_declarations.specs.TypeDefinitions.Mentions.{given_type}
use Rattle.module_runner.specs.Entries.{HasEntry, IsEntry}
use Rattle.module_runner.specs.inner.Entries.{is_entry}

-- how it is found

-- a module has few functions
pub few_functions : (m : Module) → IsVerified m → length m.functions < 2 ^ 32
few_functions m verified = let few : length m.functions ≤ 1024 = verified.numbered.limits.functions in omega arith

-- where no element passes, none does at any place
none_passes : {X : Type 0} (p : X → Bool) (xs : List X) → position p xs ≡ None → (k : ℕ) (x : X) → slice_get xs k ≡ Some x → p x ≡ true → ⊥
none_passes p xs none k x there passes = by (cases_Bool (nat_lt (position_or_len p xs) (length xs)))
  where
    by : (nat_lt (position_or_len p xs) (length xs) ≡ true) ⊎ (nat_lt (position_or_len p xs) (length xs) ≡ false) → ⊥
    by (inl within) = none-some (position_or_len p xs) (sym none ∙ ap (λ b. cond b (Some (position_or_len p xs)) None) within)
    by (inr past) =
        let inside : k < length xs = slice_get_within xs k x there in
        let behind = ltb-false (position_or_len p xs) (length xs) past in
        true≢false (sym passes ∙ sym (ap p (get_or_from_slice_get xs k x x there)) ∙ fails_before_first p xs k x (omega arith))

module _ (m : Module) (name : Name) where
  pub none_named : position (is_entry name) m.functions ≡ None → HasEntry m name → ⊥
  none_named none (e, f, entry) =
      none_passes (is_entry name) m.functions none e.0 f entry.there
      (and_from (bytes_eq f.name name) (may_start f) ((bytes_eq-Decides f.name name).1 entry.named) entry.starts)

  pub named_at : (e : FuncId) (f : Function) → position (is_entry name) m.functions ≡ Some e.0 → f ≡ get_or m.functions e.0 f → IsEntry m name e f
  named_at e f found is =
      let first = position-Some (is_entry name) m.functions e.0 f found in
      let parts = and_parts (bytes_eq f.name name) (may_start f) (ap (is_entry name) is ∙ first.1) in
      record {
        there = slice_get-get_or m.functions e.0 f first.0 ∙ ap Some (sym is);
        named = (bytes_eq-Decides f.name name).0 parts.0;
        starts = parts.1;
      }

-- the function with its number gives what the entry function gives
pub entry_gives : (m : Module) (name : Name) (e : FuncId) (f other : Function) (functions : List Function) → functions ≡ m.functions → IsEntry m name e f
    → given_type (get_or functions e.0 other).signature ≡ given_type f.signature
entry_gives m name e f other functions all entry =
    ap (λ (g : Function). given_type g.signature) (ap (λ fs. get_or fs e.0 other) all ∙ get_or_from_slice_get m.functions e.0 f other entry.there)

-- in the lowered module

keeps_blocks : (d : Declarations) (renamings : List Definition) (spare : ℕ) (number : ValueId → ValueId) (bs : List Block)
    → has_any (renumbered number (blocks_become d renamings spare bs)) ≡ has_any bs
keeps_blocks d renamings spare number [] = refl
keeps_blocks d renamings spare number (b ∷ bs) = refl

starts_by_form : (o : Form) (d : Declarations) (f : Function) → may_start f ≡ true → may_start (lowered_by o d f) ≡ true
starts_by_form Ossa d f starts = ap (λ b. b && not (has_any (arguments_of f.signature))) (keeps_blocks d _ _ _ f.blocks) ∙ starts
starts_by_form Lowered d f starts = starts
starts_by_form External d f starts = starts

pub lowered_starts : (m : Module) (name : Name) (e : FuncId) (f : Function) → IsEntry m name e f → MayStartAt (lowered m) e
lowered_starts m name e f entry =
    let d = declarations_of m in
    record {
      entry = lowered_function d f;
      there = slice_get-map (lowered_function d) m.functions e.0 ∙ ap (option_map (lowered_function d)) entry.there;
      may = starts_by_form f.form d f entry.starts;
    }
