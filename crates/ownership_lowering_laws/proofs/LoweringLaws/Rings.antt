-- Where no rule on kinds is broken, no value is another name of itself.
use Rattle.std.proofs.Common.{◌≡◌, ℕ, ◌<◌, ◌≤◌, List, [], ◌∷◌, length, arith, ◌⊎◌, inl, inr}
use Rattle.std.proofs.lemmas.Bool.{cases_lt}
use Rattle.sil_ast.specs.declared.function.Block.{Block}
use Rattle.sil_ast.specs.declared.function.Function.{Function}
use Rattle.sil_rules.specs.declared.rule.Rule.TheVariants as rule
use Rattle.numbered_form.specs.Numbering.{AreCountedFrom, IsFunctionNumbered, values_of}
use Rattle.ownership_kinds.specs.Statics.{HasKinds, on_ring}
use Rattle.holder_model_typing.proofs.ownership_kinds_origins.Counts.{are_of_values}
use Rattle.ownership_kinds.specs.ownership_kinds_origins.Renamings.{renamings_of}
use Rattle.sil_cfg.specs.Items.{HasBlocks}
use Rattle.sil_types_declarations.specs.TypeDefinitions.Declarations.{Declarations, declarations_of}
use Rattle.ownership_lowering_laws.specs.LoweringLaws.inner.Lowerable.{HasNoRingIn}
use Rattle.ownership_lowering_laws.specs.LoweringLaws.inner.Laws.{HaveNoRings}
use Rattle.ownership_kinds_chains.proofs.OwnershipChains.NoRings.{ring_inside}
use Rattle.holder_model_typing.proofs.RunTypingLaws.Declared.{each_from}
use Rattle.holder_model_typing.proofs.RunTypingLaws.Rows.Finding.{each_at}
use Rattle.ownership_kinds.proofs.Defined.{defined_somewhere}

some_blocks : (bs : List Block) (n : ℕ) → n < length (values_of bs) → 0 < length bs
some_blocks [] n lt = absurd (omega arith)
some_blocks (b ∷ bs) n lt = omega arith

no_ring : (d : Declarations) (f : Function) → AreCountedFrom 0 (values_of f.blocks) → (HasBlocks f → HasKinds d f) → HasNoRingIn f
no_ring d f counted kinds v cyclic = at (cases_lt v.0 (length (renamings_of f)))
  where
    at : (v.0 < length (renamings_of f)) ⊎ (length (renamings_of f) ≤ v.0) → ⊥
    at (inl lt) =
        let same : length (renamings_of f) ≡ length (values_of f.blocks) = (are_of_values d f).1 in
        let inside : v.0 < length (values_of f.blocks) = omega arith in
        let point = defined_somewhere v f counted inside in
        kinds (some_blocks f.blocks v.0 inside) rule.CyclicForwarding v point.0 point.1 (on_ring v point.0 point.1 (inr cyclic) point.2)
    at (inr le) = ring_inside (renamings_of f) v v cyclic le

pub kinds_have_no_rings : HaveNoRings
kinds_have_no_rings m numbered kinds =
    each_from HasNoRingIn m.functions (λ n f there. no_ring (declarations_of m) f
    (each_at (IsFunctionNumbered (length m.functions)) m.functions n f numbered.numbering.functions there).values (kinds n f there))
