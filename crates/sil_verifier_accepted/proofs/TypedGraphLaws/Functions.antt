-- The law: a typed module's functions are ready for their graphs.
use Rattle.std.proofs.Common.{◌≡◌, ℕ, zero, suc, ◌<◌, ◌≤◌, List, [], ◌∷◌, length, length-append, subst, arith, true, Some}
use Rattle.std.specs.Prelude.{slice_get}
use Rattle.sil_ast.specs.declared.function.Block.{Block}
use Rattle.sil_ast.specs.declared.function.Function.{Function}
use Rattle.sil_ast.specs.declared.inst.Inst.{Inst}
use Rattle.sil_ast.specs.declared.module.Module.{Module}
use Rattle.sil_cfg.specs.Items.{HasBlocks}
use Rattle.sil_cfg.specs.inner.Build.{IsBlockLinked}
use Rattle.sil_rules.specs.declared.rule.Rule.TheVariants as rule
use Rattle.numbered_form.specs.Insts.{EachInBlock, insts_in, insts_of}
use Rattle.numbered_form.specs.inner.Limits.{IsFunctionInLimits}
use Rattle.numbered_form.specs.inner.NumberedForm.{IsNumbered}
use Rattle.numbered_form.specs.Numbering.{IsEdgeInRange, IsFunctionNumbered, IsInstInRange, values_of}
use Rattle.numbered_form.specs.inner.Parts.{BlockHasParts, FunctionHasParts, are_edges_by}
use Rattle.instruction_table.specs.Forms.{ending_of}
use Rattle.ownership_kinds.specs.sil_types_declarations.TypeDefinitions.Declarations.{declarations_of}
use Rattle.type_check.specs.sil_types.Typing.Typed.{Typed, at_point, edge_arguments, entry_has_predecessor, point, switch_cases}
use Rattle.numbered_form.specs.PointChecks.Points.{IsAt}
use Rattle.sil_verifier_accepted.specs.TypedGraphLaws.inner.Laws.{HaveGraphsWhere}
use Rattle.sil_verifier_accepted.specs.TypedGraphLaws.inner.Ready.{HasFittingEdges, IsReadyForGraph}
use Rattle.sil_verifier_accepted.proofs.TypedGraphLaws.Edges.{few_edges_at, fitting_edges}
use Rattle.sil_verifier_accepted.proofs.TypedGraphLaws.Facts.{all_at, all_of_each, at_end, each_at, each_of}

-- a block has no more instructions than all blocks together
within_all : (blocks : List Block) (i : ℕ) (b : Block) → slice_get blocks i ≡ Some b → length b.insts ≤ length (insts_in blocks)
within_all [] i b e = cc
within_all (x ∷ xs) zero b e =
    let same : x ≡ b = cc in
    let all = length-append (insts_of x) (insts_in xs) in
    let own = length-append x.insts (x.terminator ∷ []) in
    subst (λ y. length y.insts ≤ length (insts_in (x ∷ xs))) same (omega (arith, all, own))
within_all (x ∷ xs) (suc i) b e =
    let behind = within_all xs i b e in
    let all = length-append (insts_of x) (insts_in xs) in
    omega (arith, behind, all)

module _ (m : Module) (n : ℕ) (f : Function) (numbered : IsNumbered m) (typed : Typed m) (is_there : slice_get m.functions n ≡ Some f) where
  in_limits : IsFunctionInLimits f
  in_limits = each_at IsFunctionInLimits m.functions n f numbered.limits.each is_there

  is_numbered : IsFunctionNumbered (length m.functions) f
  is_numbered = each_at (IsFunctionNumbered (length m.functions)) m.functions n f numbered.numbering.functions is_there

  module _ (index : ℕ) (b : Block) (is_block : slice_get f.blocks index ≡ Some b) where
    is_last : IsAt f index (length b.insts) b.terminator
    is_last = record { within = b; is_block = is_block; is_inst = at_end b.insts b.terminator }

    edges_of_row : are_edges_by (ending_of b.terminator.op) b.terminator.edges ≡ true
    edges_of_row = (each_at BlockHasParts f.blocks index b (each_at FunctionHasParts m.functions n f numbered.parts is_there) is_block).terminator.parts.edges

    edges_fit : HasFittingEdges f b
    edges_fit = fitting_edges f b edges_of_row
        (λ e. typed (at_point n index (length b.insts)) rule.EdgeArguments (point n f index (length b.insts) b.terminator rule.EdgeArguments is_there is_last (edge_arguments e)))
        (λ e. typed (at_point n index (length b.insts)) rule.EntryHasPredecessor (point n f index (length b.insts) b.terminator rule.EntryHasPredecessor is_there is_last (entry_has_predecessor e)))

    is_linked : IsBlockLinked f b
    is_linked = record {
      short = let le = within_all f.blocks index b is_block in let most = in_limits.insts in omega (arith, le, most);
      few_edges = few_edges_at (declarations_of m) f b.terminator numbered.limits.members edges_of_row
          (λ e. typed (at_point n index (length b.insts)) rule.SwitchCases (point n f index (length b.insts) b.terminator rule.SwitchCases is_there is_last (switch_cases e)));
      targets =
          let InRange : Inst → Type 0 = IsInstInRange (length (values_of f.blocks)) (length f.blocks) (length m.functions) in
          let edges = (each_at (EachInBlock InRange) f.blocks index b is_numbered.used is_block).1.edges in
          all_of_each (λ e. e.block.0 < length f.blocks) b.terminator.edges
          (each_of (IsEdgeInRange (length (values_of f.blocks)) (length f.blocks)) (λ e. e.block.0 < length f.blocks) (λ e h. h.block) b.terminator.edges edges);
    }

  is_ready : HasBlocks f → IsReadyForGraph (length m.functions) f
  is_ready body = record {
    graph = record {
      body = body;
      few_blocks = let most = in_limits.blocks in omega (arith, most);
      blocks = all_at (IsBlockLinked f) f.blocks is_linked;
    };
    numbered = is_numbered;
    edges = all_at (HasFittingEdges f) f.blocks edges_fit;
  }

pub graphs_by_blocks : HaveGraphsWhere HasBlocks
graphs_by_blocks m n f numbered typed is_there body = is_ready m n f numbered typed is_there body
