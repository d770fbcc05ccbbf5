-- What holds of the blocks of a module in numbered form holds of what lowering makes of them, and of these with new numbers.
use Rattle.std.proofs.Common.{◌≡◌, ℕ, ◌+◌, ◌≤◌, List, [], ◌∷◌, ◌++◌, length, map, sym, ap, subst, arith, Bool, true, false, cond, Some}
use Rattle.std.specs.Prelude.{filter}
use Rattle.std.specs.List.{flat_map}
use Rattle.std.proofs.lemmas.List.{length-map}
use Rattle.sil_ast.specs.declared.decl.Field.{Field}
use Rattle.sil_ast.specs.declared.function.Block.{Block}
use Rattle.sil_ast.specs.declared.function.BlockArg.{BlockArg}
use Rattle.sil_ast.specs.declared.function.Function.{Function}
use Rattle.sil_ast.specs.declared.inst.Inst.{Inst}
use Rattle.sil_ast.specs.declared.member.Member.{Member}
use Rattle.sil_ast.specs.declared.place.ValueId.{ValueId}
use Rattle.sil_ast.specs.declared.type_name.TypeName.{TypeName}
use Rattle.ownership_lowering_model.specs.Extracts.{member_of}
use Rattle.ownership_lowering_model.specs.LoweredBlocks.{args_become, block_becomes, blocks_become, has_own_name, insts_become, value_with, without_annotation}
use Rattle.ownership_lowering_model.specs.LoweredInsts.{becomes}
use Rattle.ownership_lowering_model.specs.Numbers.{renumbered, renumbered_arg, renumbered_block, renumbered_inst}
use Rattle.numbered_form.specs.Insts.{EachInBlock, insts_of}
use Rattle.numbered_form.specs.Lists.{Each}
use Rattle.numbered_form.specs.Names.{IsMemberSpelled}
use Rattle.numbered_form.specs.Numbering.{defined_in, results_of, value_of, values_of}
use Rattle.numbered_form.specs.inner.Limits.{IsBlockInLimits, IsInstInLimits}
use Rattle.numbered_form.specs.inner.Parts.{BlockHasParts, IsInside, IsTerminator}
use Rattle.numbered_form.specs.inner.Types.{HasArgType, HasBlockTypes, HasInstTypes, IsPlacedType}
use Rattle.ownership_kinds.specs.ownership_kinds_origins.Renamings.{renamings_of}
use Rattle.holder_model_typing.specs.sil_types.Typing.Shapes.{is_object, target}
use Rattle.sil_types_declarations.specs.TypeDefinitions.Declarations.{Declarations}
use Rattle.sil_types_declarations.specs.TypeDefinitions.Mentions.{Mention, block_members, in_arg, in_block, in_inst, inst_members, mention}
use Rattle.sil_types_declarations.specs.declared.type_definitions.standing.Standing.TheVariants.{Value}
use Rattle.numbered_form.proofs.ValueTables.Rows.{each_flat}
use Rattle.ownership_lowering_laws.proofs.LoweringLaws.Covered.{New, next_define, new_defines, old_defines, own}
use Rattle.ownership_lowering_laws.proofs.LoweringLaws.Known.{Known, KnownBlock}
use Rattle.numbered_form.proofs.Lists.{each_weaker}
use Rattle.ownership_lowering_laws.proofs.LoweringLaws.NewValues.{spare_values_by, takes_spare}
use Rattle.ownership_lowering_laws.proofs.LoweringLaws.Structs.{IsStruct}
use Rattle.holder_model_typing.proofs.RunTypingLaws.Declared.{each_append}
use Rattle.holder_model_typing.proofs.RunTypingLaws.ListFacts.{each_map, each_parts}
use Rattle.ownership_lowering_laws.proofs.LoweredNumberingLaws.ByKind.{becomes_sound}
use Rattle.ownership_lowering_laws.proofs.LoweredNumberingLaws.Sizes.{kept_few}
use Rattle.ownership_lowering_laws.proofs.LoweredNumberingLaws.Sound.{IsSound, IsSoundInside, new_sound}

-- what holds of all elements holds of those that are kept
each_kept : {A : Type 0} (P : A → Type 0) (test : A → Bool) (xs : List A) → Each P xs → Each P (filter test xs)
each_kept P test [] h = tt
each_kept {A} P test (x ∷ xs) h = at (test x) (each_kept P test xs h.1)
  where
    at : (b : Bool) → Each P (filter test xs) → Each P (cond b (x ∷ filter test xs) (filter test xs))
    at true rest = (h.0, rest)
    at false rest = rest

pub each_from_map : {A B : Type 0} (g : A → B) (P : B → Type 0) (xs : List A) → Each P (map g xs) → Each (λ x. P (g x)) xs
each_from_map g P [] h = tt
each_from_map g P (x ∷ xs) h = (h.0, each_from_map g P xs h.1)

module _ (K : ValueId → Type 0) (T : Mention → Type 0) (M : Member → Type 0) (blocks functions : ℕ) where
  abbrev Sound : Inst → Type 0
  Sound i = IsSound K T M blocks functions i

  abbrev Inside : Inst → Type 0
  Inside i = IsSoundInside K T M blocks functions i

  -- all that holds of a block
  pub record IsSoundBlock (b : Block) : Type 0 where
    pub few_args : length b.args ≤ 64
    pub arg_types : Each HasArgType b.args
    pub arg_mentions : Each (λ a. T (in_arg a)) b.args
    pub insts : Each Inside b.insts
    pub terminator : Sound b.terminator
    pub ends : IsTerminator b.terminator

  -- ---- what it is for the parts of numbered form

  pub block_parts : (b : Block) → IsSoundBlock b → BlockHasParts b
  block_parts b h = record { insts = each_weaker Inside IsInside (λ i s. record { goes_on = s.0; parts = s.1.parts }) b.insts h.insts; terminator = h.ends }

  pub in_block_each : (P : Inst → Type 0) → ((i : Inst) → Sound i → P i) → (b : Block) → IsSoundBlock b → EachInBlock P b
  in_block_each P e b h = (each_weaker Inside P (λ i s. e i s.1) b.insts h.insts, e b.terminator h.terminator)

  pub block_types : (b : Block) → IsSoundBlock b → HasBlockTypes b
  block_types b h = record { args = h.arg_types; insts = in_block_each HasInstTypes (λ i s. s.types) b h }

  pub block_limits : (b : Block) → IsSoundBlock b → IsBlockInLimits b
  block_limits b h = record { args = h.few_args; insts = in_block_each IsInstInLimits (λ i s. s.limits) b h }

  all_sound : (b : Block) → IsSoundBlock b → Each Sound (insts_of b)
  all_sound b h = each_append Sound b.insts (b.terminator ∷ []) (each_weaker Inside Sound (λ i s. s.1) b.insts h.insts) (h.terminator, tt)

  pub block_mentions : (b : Block) → IsSoundBlock b → Each T (in_block b)
  block_mentions b h =
      each_append T (map in_arg b.args) (flat_map in_inst (insts_of b)) (each_map in_arg (λ a. T (in_arg a)) T (λ a x. x) b.args h.arg_mentions)
      (each_flat in_inst Sound T (λ i s. s.mentioned) (insts_of b) (all_sound b h))

  pub members_in_block : (b : Block) → IsSoundBlock b → Each M (block_members b)
  members_in_block b h = each_flat inst_members Sound M (λ i s. s.named) (insts_of b) (all_sound b h)

  -- ---- lowered blocks

  module _ (behind : (t u : TypeName) → target t ≡ Some u → is_object u ≡ true → T (mention Value t) → T (mention Value u)) (d : Declarations) (f : Function)
      (members : (t : TypeName) (fields : List Field) (struct : IsStruct d t fields) → IsPlacedType t
      → Each (λ m. IsMemberSpelled m × M m) (map (member_of struct.name) fields)) where
    spare_known : (takes : Bool) (spare : ValueId) → Each K (spare_values_by takes spare) → takes ≡ true → K spare
    spare_known true spare h e = h.0
    spare_known false spare h e = absurd (cc)

    insts_sound : (spare : ℕ) (is : List Inst) → Each (Known d f) is → Each Inside is → Each K (flat_map results_of is) → Each K (New d f spare is)
        → Each Inside (insts_become d (renamings_of f) spare is)
    insts_sound spare [] k s old new = tt
    insts_sound spare (i ∷ is) k s old new =
        let olds = each_parts K i.results (flat_map results_of is) old in
        let mine : List ValueId = spare_values_by (takes_spare i) (value_with spare) ++ filter (own d f) i.results in
        let news = each_parts K mine (New d f (spare + 1) is) (subst (Each K) (next_define d f spare i is k.0) new) in
        let spares = (each_parts K (spare_values_by (takes_spare i) (value_with spare)) (filter (own d f) i.results) news.0).0 in
        each_append Inside (becomes d (value_with spare) i) (insts_become d (renamings_of f) (spare + 1) is)
        (becomes_sound K T M blocks functions behind d f (value_with spare) i k.0 s.0.1 olds.0 members (spare_known (takes_spare i) (value_with spare) spares))
        (insts_sound (spare + 1) is k.1 s.1 olds.1 news.1)

    args_few : (args : List BlockArg) → length args ≤ 64 → length (args_become (renamings_of f) args) ≤ 64
    args_few args le =
        let kept : List BlockArg = filter (has_own_name (renamings_of f)) args in
        let same : length (map without_annotation kept) ≡ length kept = length-map kept without_annotation in
        let few : length kept ≤ length args = kept_few (has_own_name (renamings_of f)) args in
        omega arith

    args_keep : (P : BlockArg → Type 0) → ((a : BlockArg) → P a → P (without_annotation a)) → (args : List BlockArg) → Each P args
        → Each P (args_become (renamings_of f) args)
    args_keep P e args h = each_map without_annotation P P e (filter (has_own_name (renamings_of f)) args) (each_kept P (has_own_name (renamings_of f)) args h)

    block_sound : (spare : ℕ) (b : Block) → KnownBlock d f b → IsSoundBlock b → Each K (defined_in b)
        → Each K (defined_in (block_becomes d (renamings_of f) spare b))
        → IsSoundBlock (block_becomes d (renamings_of f) spare b)
    block_sound spare b k s old new =
        let olds = each_parts K (map value_of b.args) (flat_map results_of b.insts) (subst (Each K) (old_defines d f b k) old) in
        let news = each_parts K (filter (own d f) (map value_of b.args)) (New d f spare b.insts) (subst (Each K) (new_defines d f spare b k) new) in
        record {
          few_args = args_few b.args s.few_args;
          arg_types = args_keep HasArgType (λ a x. x) b.args s.arg_types;
          arg_mentions = args_keep (λ a. T (in_arg a)) (λ a x. x) b.args s.arg_mentions;
          insts = insts_sound spare b.insts k.insts s.insts olds.1 news.1;
          terminator = s.terminator;
          ends = s.ends;
        }

    pub blocks_sound : (spare : ℕ) (bs : List Block) → Each (KnownBlock d f) bs → Each IsSoundBlock bs → Each K (values_of bs)
        → Each K (values_of (blocks_become d (renamings_of f) spare bs)) → Each IsSoundBlock (blocks_become d (renamings_of f) spare bs)
    blocks_sound spare [] k s old new = tt
    blocks_sound spare (b ∷ bs) k s old new =
        let olds = each_parts K (defined_in b) (values_of bs) old in
        let next : ℕ = spare + length b.insts in
        let news = each_parts K (defined_in (block_becomes d (renamings_of f) spare b)) (values_of (blocks_become d (renamings_of f) next bs)) new in
        (block_sound spare b k.0 s.0 olds.0 news.0, blocks_sound next bs k.1 s.1 olds.1 news.1)

-- ---- blocks with new numbers

module _ (number : ValueId → ValueId) (K L : ValueId → Type 0) (T : Mention → Type 0) (M : Member → Type 0) (blocks functions : ℕ)
    (renewed : (v : ValueId) → K v → L (number v)) where
  new_block : (b : Block) → IsSoundBlock K T M blocks functions b → IsSoundBlock L T M blocks functions (renumbered_block number b)
  new_block b s = record {
    few_args = subst (λ n. n ≤ 64) (sym (length-map b.args (renumbered_arg number))) s.few_args;
    arg_types = each_map (renumbered_arg number) HasArgType HasArgType (λ a x. x) b.args s.arg_types;
    arg_mentions = each_map (renumbered_arg number) (λ a. T (in_arg a)) (λ a. T (in_arg a)) (λ a x. x) b.args s.arg_mentions;
    insts = each_map (renumbered_inst number) (IsSoundInside K T M blocks functions) (IsSoundInside L T M blocks functions)
        (λ i x. (x.0, new_sound number K L T M blocks functions renewed i x.1)) b.insts s.insts;
    terminator = new_sound number K L T M blocks functions renewed b.terminator s.terminator;
    ends = record {
      ends = s.ends.ends;
      no_results = ap (map number) s.ends.no_results;
      parts = (new_sound number K L T M blocks functions renewed b.terminator s.terminator).parts;
    };
  }

  pub new_blocks : (bs : List Block) → Each (IsSoundBlock K T M blocks functions) bs → Each (IsSoundBlock L T M blocks functions) (renumbered number bs)
  new_blocks bs s = each_map (renumbered_block number) (IsSoundBlock K T M blocks functions) (IsSoundBlock L T M blocks functions) new_block bs s
