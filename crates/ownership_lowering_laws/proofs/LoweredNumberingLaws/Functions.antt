-- A lowered function of a typed module in numbered form: its values are numbered, its instructions have the parts of their rows, and the limits are kept.
use Rattle.std.proofs.Common.{◌≡◌, ℕ, ◌+◌, ◌<◌, ◌≤◌, List, [], ◌∷◌, length, map, refl, sym, ap, ◌∙◌, subst, suc, arith, true, Some}
use Rattle.std.specs.Prelude.{slice_get}
use Rattle.std.specs.List.{flat_map}
use Rattle.std.proofs.lemmas.List.{length-map}
use Rattle.std.proofs.lemmas.Option.{slice_get_within}
use Rattle.sil_ast.specs.declared.decl.Field.{Field}
use Rattle.sil_ast.specs.declared.function.Block.{Block}
use Rattle.sil_ast.specs.declared.function.Function.{Function}
use Rattle.sil_ast.specs.declared.inst.Inst.{Inst}
use Rattle.sil_ast.specs.declared.member.Member.{Member}
use Rattle.sil_ast.specs.declared.module.Module.{Module}
use Rattle.sil_ast.specs.declared.place.ValueId.{ValueId}
use Rattle.sil_ast.specs.declared.type_name.TypeName.{TypeName}
use Rattle.ownership_lowering_model.specs.Extracts.{member_of}
use Rattle.ownership_lowering_model.specs.LoweredBlocks.{blocks_become, lowered_blocks}
use Rattle.ownership_lowering_model.specs.LoweredModules.{lowered_body}
use Rattle.ownership_lowering_model.specs.Numbers.{new_number, numbering_of, renumbered_block}
use Rattle.numbered_form.specs.Insts.{EachInBlock, EachInFunction, insts_of}
use Rattle.numbered_form.specs.Lists.{Each}
use Rattle.numbered_form.specs.Names.{IsInstSpelled, IsMemberSpelled}
use Rattle.numbered_form.specs.Numbering.{IsEdgeInRange, IsFunctionNumbered, IsInstInRange, IsValueBelow, values_of}
use Rattle.numbered_form.specs.inner.Limits.{IsBlockInLimits, IsFunctionInLimits, IsInstInLimits, value_count}
use Rattle.numbered_form.specs.inner.Literals.{HasLiterals}
use Rattle.numbered_form.specs.inner.NumberedForm.{IsNumbered}
use Rattle.numbered_form.specs.inner.Parts.{BlockHasParts, FunctionHasParts, IsInside}
use Rattle.numbered_form.specs.inner.Types.{HasBlockTypes, HasFunctionTypes, HasInstTypes, IsPlacedType}
use Rattle.ownership_kinds.specs.ownership_kinds_origins.Renamings.{renamings_of}
use Rattle.holder_model_typing.specs.holder_model.RunTyping.Runnable.{IsBodyInLimits}
use Rattle.holder_model_typing.specs.sil_types.Typing.Shapes.{is_object, target}
use Rattle.holder_model_typing.specs.sil_types.Typing.Typed.{Typed}
use Rattle.sil_types_declarations.specs.TypeDefinitions.Declarations.{Declarations, declarations_of}
use Rattle.sil_types_declarations.specs.TypeDefinitions.Mentions.{Mention, block_members, function_members, in_arg, in_block, in_function, in_inst, in_signature, inst_members}
use Rattle.sil_types_declarations.specs.TypeDefinitions.Mentions.{mention}
use Rattle.sil_types_declarations.specs.declared.type_definitions.standing.Standing.TheVariants.{Value}
use Rattle.numbered_form.proofs.ValueTables.Rows.{each_flat}
use Rattle.ownership_lowering_laws.specs.LoweringLaws.inner.Lowerable.{HasNoRings, IsLowerable}
use Rattle.ownership_lowering_laws.specs.LoweringLaws.inner.Laws.{defined_by}
use Rattle.ownership_lowering_laws.proofs.LoweringLaws.Known.{known_blocks}
use Rattle.numbered_form.proofs.Counted.{counted_below}
use Rattle.numbered_form.proofs.Lists.{each_weaker}
use Rattle.ownership_lowering_laws.proofs.LoweringLaws.Lowerable.{functions_are_lowerable}
use Rattle.ownership_lowering_laws.proofs.LoweringLaws.Placed.{defined_are_placed, new_values_are_counted, old_are_placed}
use Rattle.ownership_lowering_laws.proofs.LoweringLaws.Renumbered.{renumbered_values}
use Rattle.ownership_lowering_laws.proofs.LoweringLaws.Structs.{IsStruct}
use Rattle.holder_model_typing.proofs.RunTypingLaws.Declared.{each_append, each_from}
use Rattle.holder_model_typing.proofs.RunTypingLaws.ListFacts.{each_parts, each_within}
use Rattle.holder_model_typing.proofs.RunTypingLaws.Rows.Finding.{each_at}
use Rattle.holder_model_typing.proofs.RunTypingLaws.ListFacts.{get_last}
use Rattle.holder_model_typing.proofs.RunTypingLaws.Rows.Points.{in_front}
use Rattle.ownership_lowering_laws.proofs.LoweredNumberingLaws.Blocks.{IsSoundBlock, block_limits, block_mentions, block_parts, block_types, blocks_sound, each_from_map}
use Rattle.ownership_lowering_laws.proofs.LoweredNumberingLaws.Blocks.{in_block_each, members_in_block, new_blocks}
use Rattle.ownership_lowering_laws.proofs.LoweredNumberingLaws.Sizes.{blocks_less, blocks_short, renumbered_count}
use Rattle.ownership_lowering_laws.proofs.LoweredNumberingLaws.Sound.{IsSound, IsSoundInside, Uses, UsesAlong}

as_many_blocks : (d : Declarations) (f : Function) (spare : ℕ) (bs : List Block) → length (blocks_become d (renamings_of f) spare bs) ≡ length bs
as_many_blocks d f spare [] = refl
as_many_blocks d f spare (b ∷ bs) = ap suc (as_many_blocks d f (spare + length b.insts) bs)

pub body_has_as_many : (d : Declarations) (f : Function) → length (lowered_body d f).blocks ≡ length f.blocks
body_has_as_many d f =
    length-map (lowered_blocks d f) (renumbered_block (new_number (numbering_of d f))) ∙ as_many_blocks d f (length (values_of f.blocks)) f.blocks

module _ (m : Module) (n : ℕ) (f : Function) (numbered : IsNumbered m) (typed : Typed m) (rings : HasNoRings m) (there : slice_get m.functions n ≡ Some f) where
  abbrev d : Declarations
  d = declarations_of m

  l : IsLowerable (length m.functions) d f
  l = functions_are_lowerable m n f numbered typed rings there

  abbrev defined : List ValueId
  defined = defined_by d f

  -- the new number of a value is that of one that is defined
  abbrev IsKnown : ValueId → Type 0
  IsKnown v = (new_number (numbering_of d f) v).0 < length defined

  abbrev IsBelow : ValueId → Type 0
  IsBelow v = v.0 < length defined

  new_known : Each IsKnown defined
  new_known = each_from IsKnown defined at
    where
      at : (k : ℕ) (v : ValueId) → slice_get defined k ≡ Some v → IsKnown v
      at k v e =
          let inside : k < length defined = slice_get_within defined k v e in
          let number : (new_number (numbering_of d f) v).0 ≡ k = ap (λ x. x.0) (defined_are_placed (length m.functions) d f k v l e).1 in
          omega arith

  known_below : (v : ValueId) → v.0 < length (values_of f.blocks) → IsKnown v
  known_below v lt =
      let p = old_are_placed (length m.functions) d f v l lt in
      let inside : p.0 < length defined = slice_get_within defined p.0 _ p.1 in
      let number : (new_number (numbering_of d f) v).0 ≡ p.0 = ap (λ x. x.0) p.2 in
      omega arith

  old_known : Each IsKnown (values_of f.blocks)
  old_known =
      each_weaker (λ v. v.0 < 0 + length (values_of f.blocks)) IsKnown
      (λ v lt. known_below v (let same : v.0 < 0 + length (values_of f.blocks) = lt in omega arith)) (values_of f.blocks)
      (counted_below 0 (values_of f.blocks) l.numbered.values)

  uses : (i : Inst) → IsInstInRange (length (values_of f.blocks)) (length f.blocks) (length m.functions) i
      → Uses IsKnown (length f.blocks) (length m.functions) i
  uses i h = record {
    operands = each_weaker (IsValueBelow (length (values_of f.blocks))) (λ o. IsKnown o.value) (λ o lt. known_below o.value lt) i.operands h.operands;
    edges = each_weaker (IsEdgeInRange (length (values_of f.blocks)) (length f.blocks)) (UsesAlong IsKnown (length f.blocks))
        (λ e x. record {
          block = x.block;
          args = each_weaker (IsValueBelow (length (values_of f.blocks))) (λ o. IsKnown o.value) (λ o lt. known_below o.value lt) e.args x.args;
        }) i.edges h.edges;
    function = h.function;
  }

  limits : IsFunctionInLimits f
  limits = each_at IsFunctionInLimits m.functions n f numbered.limits.each there

  -- ---- what holds of the function's blocks, and of the lowered ones

  module _ (T : Mention → Type 0) (M : Member → Type 0) (mentioned : Each T (in_function f)) (named : Each M (function_members f))
      (behind : (t u : TypeName) → target t ≡ Some u → is_object u ≡ true → T (mention Value t) → T (mention Value u))
      (members : (t : TypeName) (fields : List Field) (struct : IsStruct d t fields) → IsPlacedType t
      → Each (λ x. IsMemberSpelled x × M x) (map (member_of struct.name) fields)) where
    abbrev Sound : (ValueId → Type 0) → Inst → Type 0
    Sound K i = IsSound K T M (length f.blocks) (length m.functions) i

    abbrev SoundBlock : (ValueId → Type 0) → Block → Type 0
    SoundBlock K b = IsSoundBlock K T M (length f.blocks) (length m.functions) b

    module _ (k : ℕ) (b : Block) (is_block : slice_get f.blocks k ≡ Some b) where
      each_inst : (P : Inst → Type 0) → EachInFunction P f → EachInBlock P b
      each_inst P h = each_at (EachInBlock P) f.blocks k b h is_block

      parts : BlockHasParts b
      parts = each_at BlockHasParts f.blocks k b (each_at FunctionHasParts m.functions n f numbered.parts there) is_block

      literals : EachInBlock HasLiterals b
      literals = each_inst HasLiterals (each_at (EachInFunction HasLiterals) m.functions n f numbered.literals there)

      spelled : EachInBlock IsInstSpelled b
      spelled = each_inst IsInstSpelled (each_at (EachInFunction IsInstSpelled) m.functions n f numbered.names.insts there)

      types : HasBlockTypes b
      types = each_at HasBlockTypes f.blocks k b (each_at HasFunctionTypes m.functions n f numbered.types.functions there).blocks is_block

      used : EachInBlock (IsInstInRange (length (values_of f.blocks)) (length f.blocks) (length m.functions)) b
      used = each_inst (IsInstInRange (length (values_of f.blocks)) (length f.blocks) (length m.functions)) l.numbered.used

      block_in_limits : IsBlockInLimits b
      block_in_limits = each_at IsBlockInLimits f.blocks k b limits.each is_block

      in_this : Each T (in_block b)
      in_this = each_within in_block T f.blocks k b (each_parts T (in_signature f.signature) (flat_map in_block f.blocks) mentioned).1 is_block

      of_args : Each T (map in_arg b.args)
      of_args = (each_parts T (map in_arg b.args) (flat_map in_inst (insts_of b)) in_this).0

      of_this : Each M (block_members b)
      of_this = each_within block_members M f.blocks k b named is_block

      inst_mentions : (j : ℕ) (i : Inst) → slice_get (insts_of b) j ≡ Some i → Each T (in_inst i)
      inst_mentions j i e = each_within in_inst T (insts_of b) j i (each_parts T (map in_arg b.args) (flat_map in_inst (insts_of b)) in_this).1 e

      inst_named : (j : ℕ) (i : Inst) → slice_get (insts_of b) j ≡ Some i → Each M (inst_members i)
      inst_named j i e = each_within inst_members M (insts_of b) j i of_this e

      inst_sound : (j : ℕ) (i : Inst) → slice_get b.insts j ≡ Some i → IsSoundInside IsKnown T M (length f.blocks) (length m.functions) i
      inst_sound j i e =
          let inside = each_at IsInside b.insts j i parts.insts e in
          let here = in_front b.insts (b.terminator ∷ []) j i e in (
            inside.goes_on,
            record {
              parts = inside.parts;
              literals = each_at HasLiterals b.insts j i literals.0 e;
              spelled = each_at IsInstSpelled b.insts j i spelled.0 e;
              types = each_at HasInstTypes b.insts j i types.insts.0 e;
              limits = each_at IsInstInLimits b.insts j i block_in_limits.insts.0 e;
              uses = uses i (each_at (IsInstInRange (length (values_of f.blocks)) (length f.blocks) (length m.functions)) b.insts j i used.0 e);
              mentioned = inst_mentions j i here;
              named = inst_named j i here;
            },
          )

      old_block : SoundBlock IsKnown b
      old_block =
          let here = get_last b.insts b.terminator in
          record {
            few_args = block_in_limits.args;
            arg_types = types.args;
            arg_mentions = each_from_map in_arg T b.args of_args;
            insts = each_from (IsSoundInside IsKnown T M (length f.blocks) (length m.functions)) b.insts inst_sound;
            terminator = record {
              parts = parts.terminator.parts;
              literals = literals.1;
              spelled = spelled.1;
              types = types.insts.1;
              limits = block_in_limits.insts.1;
              uses = uses b.terminator used.1;
              mentioned = inst_mentions (length b.insts) b.terminator here;
              named = inst_named (length b.insts) b.terminator here;
            };
            ends = parts.terminator;
          }

    pub body_sound : Each (SoundBlock IsBelow) (lowered_body d f).blocks
    body_sound =
        new_blocks (new_number (numbering_of d f)) IsKnown IsBelow T M (length f.blocks) (length m.functions) (λ v h. h) (lowered_blocks d f)
        (blocks_sound IsKnown T M (length f.blocks) (length m.functions) behind d f members (length (values_of f.blocks)) f.blocks
        (known_blocks (length m.functions) d f l)
        (each_from (SoundBlock IsKnown) f.blocks old_block) old_known new_known)

    -- ---- what it is for the parts of numbered form

    abbrev body : Function
    body = lowered_body d f

    each_block : (P : Block → Type 0) → ((b : Block) → SoundBlock IsBelow b → P b) → Each P body.blocks
    each_block P e = each_weaker (SoundBlock IsBelow) P e body.blocks body_sound

    each_in_body : (P : Inst → Type 0) → ((i : Inst) → Sound IsBelow i → P i) → EachInFunction P body
    each_in_body P e = each_block (EachInBlock P) (in_block_each IsBelow T M (length f.blocks) (length m.functions) P e)

    as_many : length body.blocks ≡ length f.blocks
    as_many = body_has_as_many d f

    as_defined : length (values_of body.blocks) ≡ length defined
    as_defined = ap length (renumbered_values (new_number (numbering_of d f)) (lowered_blocks d f)) ∙ length-map defined (new_number (numbering_of d f))

    pub body_numbered : IsFunctionNumbered (length m.functions) body
    body_numbered = record {
      values = new_values_are_counted (length m.functions) d f l;
      used = subst (λ x. EachInFunction (IsInstInRange x (length body.blocks) (length m.functions)) body) (sym as_defined)
          (subst (λ x. EachInFunction (IsInstInRange (length defined) x (length m.functions)) body) (sym as_many)
          (each_in_body (IsInstInRange (length defined) (length f.blocks) (length m.functions)) (λ i s. record {
            operands = s.uses.operands;
            edges = each_weaker (UsesAlong IsBelow (length f.blocks)) (IsEdgeInRange (length defined) (length f.blocks))
                (λ e x. record { block = x.block; args = x.args }) i.edges s.uses.edges;
            function = s.uses.function;
          })));
    }

    pub body_parts : FunctionHasParts body
    body_parts = each_block BlockHasParts (block_parts IsBelow T M (length f.blocks) (length m.functions))

    pub body_literals : EachInFunction HasLiterals body
    body_literals = each_in_body HasLiterals (λ i s. s.literals)

    pub body_spelled : EachInFunction IsInstSpelled body
    body_spelled = each_in_body IsInstSpelled (λ i s. s.spelled)

    pub body_types : HasFunctionTypes body
    body_types = record {
      signature = (each_at HasFunctionTypes m.functions n f numbered.types.functions there).signature;
      blocks = each_block HasBlockTypes (block_types IsBelow T M (length f.blocks) (length m.functions));
    }

    pub body_limits : IsBodyInLimits body
    body_limits =
        let number : ValueId → ValueId = new_number (numbering_of d f) in
        let spare : ℕ = length (values_of f.blocks) in
        let count : value_count body.blocks ≡ value_count (lowered_blocks d f) = renumbered_count number (lowered_blocks d f) in
        let less : value_count (lowered_blocks d f) ≤ value_count f.blocks = blocks_less d f spare f.blocks (known_blocks (length m.functions) d f l) in
        let old : value_count f.blocks ≤ 1024 = limits.values in
        let blocks : length f.blocks ≤ 512 = limits.blocks in
        let same : length body.blocks ≡ length f.blocks = as_many in
        record {
          attributes = limits.attributes;
          signature = limits.signature;
          blocks = omega arith;
          values = omega arith;
          each = each_block IsBlockInLimits (block_limits IsBelow T M (length f.blocks) (length m.functions));
          short = blocks_short d f number spare f.blocks limits.each limits.insts;
        }

    pub body_mentions : Each T (in_function body)
    body_mentions =
        each_append T (in_signature f.signature) (flat_map in_block body.blocks)
        (each_parts T (in_signature f.signature) (flat_map in_block f.blocks) mentioned).0
        (each_flat in_block (SoundBlock IsBelow) T (block_mentions IsBelow T M (length f.blocks) (length m.functions)) body.blocks body_sound)

    pub body_members : Each M (function_members body)
    body_members = each_flat block_members (SoundBlock IsBelow) M (members_in_block IsBelow T M (length f.blocks) (length m.functions)) body.blocks body_sound
