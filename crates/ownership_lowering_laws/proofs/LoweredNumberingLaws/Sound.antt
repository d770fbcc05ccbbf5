-- What holds of each instruction of a module in numbered form, by what is known of its values, mentioned types and members; and that new numbers keep it.
use Rattle.std.proofs.Common.{◌≡◌, ℕ, ◌<◌, ◌≤◌, List, [], ◌∷◌, ◌++◌, length, map, refl, sym, ap, ap₂, ◌∙◌, subst, Bool, false, not}
use Rattle.std.specs.Prelude.{◌&&◌, ◌||◌, ◌==◌, IfSome, is_none, is_some, if◌then◌else◌}
use Rattle.std.specs.List.{flat_map, list_all}
use Rattle.std.specs.Option.{option_to_list}
use Rattle.std.proofs.lemmas.List.{length-map}
use Rattle.instruction_table.specs.Forms.{ending_of, has_one_result, is_terminator, makes_tuple, may_lack_operand, parts_of}
use Rattle.instruction_table.specs.declared.entries.Ending.{Ending}
use Rattle.instruction_table.specs.declared.entries.Ending.TheVariants as ending
use Rattle.instruction_table.specs.declared.forms.Part.{Part}
use Rattle.instruction_table.specs.declared.forms.Part.TheVariants as part
use Rattle.instruction_table.specs.declared.op.Op.{Op}
use Rattle.sil_ast.specs.declared.inst.Edge.{Edge}
use Rattle.sil_ast.specs.declared.inst.Inst.{Inst}
use Rattle.sil_ast.specs.declared.member.Member.{Member}
use Rattle.sil_ast.specs.declared.operands.Operand.{Operand}
use Rattle.sil_ast.specs.declared.place.ValueId.{ValueId}
use Rattle.ownership_lowering_model.specs.Numbers.{renumbered_edge, renumbered_inst, renumbered_operand}
use Rattle.numbered_form.specs.Lists.{Each, is_empty}
use Rattle.numbered_form.specs.Names.{IsEdgeSpelled, IsInstSpelled}
use Rattle.numbered_form.specs.inner.Limits.{IsEdgeInLimits, IsInstInLimits}
use Rattle.numbered_form.specs.inner.Literals.{HasLiterals}
use Rattle.numbered_form.specs.inner.Parts.{HasItsParts, are_cases, are_edges_by, are_of_part, are_of_parts, first_then, has_operands}
use Rattle.numbered_form.specs.inner.Parts.{is_bare, is_branch, is_case, is_default, is_typed}
use Rattle.numbered_form.specs.inner.Types.{HasEdgeTypes, HasInstTypes, HasOperandType}
use Rattle.sil_types_declarations.specs.TypeDefinitions.Mentions.{Mention, edge_members, if_there, in_edge, in_inst, in_operand, in_signature, in_tuple, inst_members, operand_types}
use Rattle.sil_types_declarations.specs.TypeDefinitions.Mentions.{standing_in, together}
use Rattle.sil_types_declarations.specs.TypeDefinitions.Mentions as mentions
use Rattle.sil_types_declarations.specs.declared.type_definitions.standing.Standing.TheVariants.{Unwritten}
use Rattle.holder_model_typing.proofs.RunTypingLaws.ListFacts.{each_map}

-- the edge goes to one of this many blocks, with values that are known
pub record UsesAlong (K : ValueId → Type 0) (blocks : ℕ) (e : Edge) : Type 0 where
  pub block : e.block.0 < blocks
  pub args : Each (λ o. K o.value) e.args

-- the instruction uses values that are known, and blocks and functions that are there
pub record Uses (K : ValueId → Type 0) (blocks functions : ℕ) (i : Inst) : Type 0 where
  pub operands : Each (λ o. K o.value) i.operands
  pub edges : Each (UsesAlong K blocks) i.edges
  pub function : IfSome i.function (λ f. f.0 < functions)

-- all that holds of an instruction
pub record IsSound (K : ValueId → Type 0) (T : Mention → Type 0) (M : Member → Type 0) (blocks functions : ℕ) (i : Inst) : Type 0 where
  pub parts : HasItsParts i
  pub literals : HasLiterals i
  pub spelled : IsInstSpelled i
  pub types : HasInstTypes i
  pub limits : IsInstInLimits i
  pub uses : Uses K blocks functions i
  pub mentioned : Each T (in_inst i)
  pub named : Each M (inst_members i)

-- it ends no block, and all holds of it
abbrev pub IsSoundInside : (ValueId → Type 0) → (Mention → Type 0) → (Member → Type 0) → ℕ → ℕ → Inst → Type 0
IsSoundInside K T M blocks functions i = (is_terminator i.op ≡ false) × IsSound K T M blocks functions i

-- ---- lists with something in the places of their elements

module _ {A : Type 0} (g : A → A) where
  all_alike : (test : A → Bool) → ((x : A) → test (g x) ≡ test x) → (xs : List A) → list_all test (map g xs) ≡ list_all test xs
  all_alike test e [] = refl
  all_alike test e (x ∷ xs) = ap₂ (λ a b. a && b) (e x) (all_alike test e xs)

  empty_alike : (xs : List A) → is_empty (map g xs) ≡ is_empty xs
  empty_alike [] = refl
  empty_alike (x ∷ xs) = refl

  flat_alike : {B : Type 0} (h : A → List B) → ((x : A) → h (g x) ≡ h x) → (xs : List A) → flat_map h (map g xs) ≡ flat_map h xs
  flat_alike h e [] = refl
  flat_alike h e (x ∷ xs) = ap₂ (λ a b. a ++ b) (e x) (flat_alike h e xs)

module _ (number : ValueId → ValueId) where
  abbrev anew : Operand → Operand
  anew o = renumbered_operand number o

  abbrev along : Edge → Edge
  along e = renumbered_edge number e

  -- ---- the parts of a row

  first_alike : (test : Operand → Bool) → ((o : Operand) → test (anew o) ≡ test o) → (rest : List Operand → Bool)
      → ((os : List Operand) → rest (map anew os) ≡ rest os)
      → (os : List Operand) → first_then test rest (map anew os) ≡ first_then test rest os
  first_alike test e rest h [] = refl
  first_alike test e rest h (o ∷ os) = ap₂ (λ a b. a && b) (e o) (h os)

  part_alike : (p : Part) (rest : List Operand → Bool) → ((os : List Operand) → rest (map anew os) ≡ rest os) → (os : List Operand)
      → are_of_part p rest (map anew os) ≡ are_of_part p rest os
  part_alike part.Typed rest h os = first_alike is_typed (λ o. refl) rest h os
  part_alike part.Bare rest h os = first_alike is_bare (λ o. refl) rest h os
  part_alike part.TypedArgs rest h os = all_alike anew is_typed (λ o. refl) os
  part_alike part.BareArgs rest h os = all_alike anew is_bare (λ o. refl) os
  part_alike _ rest h os = h os

  parts_alike : (ps : List Part) (os : List Operand) → are_of_parts ps (map anew os) ≡ are_of_parts ps os
  parts_alike [] os = empty_alike anew os
  parts_alike (p ∷ ps) os = part_alike p (are_of_parts ps) (parts_alike ps) os

  operands_alike : (o : Op) (os : List Operand) → has_operands o (map anew os) ≡ has_operands o os
  operands_alike o os = ap₂ (λ a b. a || (may_lack_operand o && b)) (parts_alike (parts_of o) os) (empty_alike anew os)

  branch_alike : (e : Edge) → is_branch (along e) ≡ is_branch e
  branch_alike e = ap (λ b. is_none e.case_of && b) (all_alike anew is_typed (λ o. refl) e.args)

  case_alike : (e : Edge) → is_case (along e) ≡ is_case e
  case_alike e = ap (λ b. is_some e.case_of && b) (empty_alike anew e.args)

  default_alike : (e : Edge) → is_default (along e) ≡ is_default e
  default_alike e = ap (λ b. is_none e.case_of && b) (empty_alike anew e.args)

  cases_alike : (es : List Edge) → are_cases (map along es) ≡ are_cases es
  cases_alike [] = refl
  cases_alike (e ∷ es) =
      ap (λ b. if b then are_cases (map along es) else (is_default (along e) && is_empty (map along es))) (case_alike e)
      ∙ ap₂ (λ a b. if is_case e then a else b) (cases_alike es) (ap₂ (λ a b. a && b) (default_alike e) (empty_alike along es))

  branches_alike : (n : ℕ) (es : List Edge) → ((length (map along es) == n) && list_all is_branch (map along es)) ≡ ((length es == n) && list_all is_branch es)
  branches_alike n es = ap₂ (λ a b. (a == n) && b) (length-map es along) (all_alike along is_branch branch_alike es)

  edges_by_alike : (end : Ending) (es : List Edge) → are_edges_by end (map along es) ≡ are_edges_by end es
  edges_by_alike ending.Inside es = empty_alike along es
  edges_by_alike ending.OneBranch es = branches_alike 1 es
  edges_by_alike ending.TwoBranches es = branches_alike 2 es
  edges_by_alike ending.Cases es = ap₂ (λ a b. not a && b) (empty_alike along es) (cases_alike es)
  edges_by_alike ending.Return es = empty_alike along es
  edges_by_alike ending.Unreachable es = empty_alike along es

  new_parts : (i : Inst) → HasItsParts i → HasItsParts (renumbered_inst number i)
  new_parts i h = record {
    ty = h.ty;
    signature = h.signature;
    function = h.function;
    member = h.member;
    number = h.number;
    text = h.text;
    qualifier = h.qualifier;
    flags = h.flags;
    debug = h.debug;
    operands = operands_alike i.op i.operands ∙ h.operands;
    edges = edges_by_alike (ending_of i.op) i.edges ∙ h.edges;
    results = ap (λ b. not (has_one_result i.op && b)) (empty_alike number i.results) ∙ h.results;
  }

  -- ---- names, types and limits

  new_spelled : (i : Inst) → IsInstSpelled i → IsInstSpelled (renumbered_inst number i)
  new_spelled i h = record { member = h.member; text = h.text; debug = h.debug; edges = each_map along IsEdgeSpelled IsEdgeSpelled (λ e x. x) i.edges h.edges }

  new_edge_types : (e : Edge) → HasEdgeTypes e → HasEdgeTypes (along e)
  new_edge_types e h = each_map anew HasOperandType HasOperandType (λ o x. x) e.args h

  new_types : (i : Inst) → HasInstTypes i → HasInstTypes (renumbered_inst number i)
  new_types i h = record {
    ty = h.ty;
    signature = h.signature;
    operands = each_map anew HasOperandType HasOperandType (λ o x. x) i.operands h.operands;
    edges = each_map along HasEdgeTypes HasEdgeTypes new_edge_types i.edges h.edges;
  }

  new_edge_limits : (e : Edge) → IsEdgeInLimits e → IsEdgeInLimits (along e)
  new_edge_limits e h = subst (λ n. n ≤ 64) (sym (length-map e.args anew)) h

  new_limits : (i : Inst) → IsInstInLimits i → IsInstInLimits (renumbered_inst number i)
  new_limits i h = record {
    operands = subst (λ n. n ≤ 64) (sym (length-map i.operands anew)) h.operands;
    results = subst (λ n. n ≤ 64) (sym (length-map i.results number)) h.results;
    signature = h.signature;
    edges = each_map along IsEdgeInLimits IsEdgeInLimits new_edge_limits i.edges h.edges;
  }

  -- ---- what is mentioned

  edge_mentions : (e : Edge) → in_edge (along e) ≡ in_edge e
  edge_mentions e = flat_alike anew in_operand (λ o. refl) e.args

  tuple_mentions : (i : Inst) → in_tuple (renumbered_inst number i) ≡ in_tuple i
  tuple_mentions i = ap (λ ts. if makes_tuple i.op then mentions.mention Unwritten (together ts) ∷ [] else [])
      (flat_alike anew operand_types (λ o. refl) i.operands)

  pub inst_mentions : (i : Inst) → in_inst (renumbered_inst number i) ≡ in_inst i
  inst_mentions i =
      let own : List Mention = if_there (standing_in i.op) i.ty ++ flat_map in_signature (option_to_list i.signature) in
      ap₂ (λ a b. a ++ b)
      (ap₂ (λ a b. a ++ b) (ap (λ a. own ++ a) (flat_alike anew in_operand (λ o. refl) i.operands)) (flat_alike along in_edge edge_mentions i.edges))
      (tuple_mentions i)

  pub members_alike : (i : Inst) → inst_members (renumbered_inst number i) ≡ inst_members i
  members_alike i = ap (λ a. option_to_list i.member ++ a) (flat_alike along edge_members (λ e. refl) i.edges)

  module _ (K L : ValueId → Type 0) (T : Mention → Type 0) (M : Member → Type 0) (blocks functions : ℕ) (renewed : (v : ValueId) → K v → L (number v)) where
    new_uses : (i : Inst) → Uses K blocks functions i → Uses L blocks functions (renumbered_inst number i)
    new_uses i h = record {
      operands = each_map anew (λ o. K o.value) (λ o. L o.value) (λ o x. renewed o.value x) i.operands h.operands;
      edges = each_map along (UsesAlong K blocks) (UsesAlong L blocks)
          (λ e x. record { block = x.block; args = each_map anew (λ o. K o.value) (λ o. L o.value) (λ o y. renewed o.value y) e.args x.args }) i.edges h.edges;
      function = h.function;
    }

    pub new_sound : (i : Inst) → IsSound K T M blocks functions i → IsSound L T M blocks functions (renumbered_inst number i)
    new_sound i h = record {
      parts = new_parts i h.parts;
      literals = record { number = h.literals.number; text = h.literals.text; argno = h.literals.argno };
      spelled = new_spelled i h.spelled;
      types = new_types i h.types;
      limits = new_limits i h.limits;
      uses = new_uses i h.uses;
      mentioned = subst (Each T) (sym (inst_mentions i)) h.mentioned;
      named = subst (Each M) (sym (members_alike i)) h.named;
    }
