-- `as_mut` returns a reference to the clients, and the handle holds the clients as it is when the reference ends.
use mathlib.Core.Path.{◌≡◌, refl}
use Prim.Native.Nat.{ℕ}
use Rattle.std.specs.Prelude.{Option, Some, None, ◌≢◌}
use Rattle.std.specs.Global.{Global}
use mathlib.Core.List.{List, [], ◌∷◌}
use seplogic.Ra.Ura.{Ura}
use base.Fraction.{full_share}
use base.Fml.{Lft, GName, Share, Fml, ftrue, flft, fsep}
use base.Logic.{SProp, ent, sep, id⊢}
use mir.Syntax.{named}
use mir.Val.{Val, vptr}
use mir.Raw.{raw as bare}
use prog.Memory.{Memory}
use prog.Routine.{Routine}
use prog.Wp.{Env, WpFn, Tables}
use types.Logic.{Logic, sem}
use contract.Monad.{Fun, fact}
use contract.Running.{tables, tables_of}
use sound.WpLaws.{WpFn-mono}
use types.Kit.{‵, raw, ◌⊛◌, some, later, ◌$◌, ◌∵◌, !, qed, by, move, keep, drop, use1, split, join, pick, fsplit, fsplit3, fjoin, fpack, rewrite, group, await, suffices, frame, at_ret, done}
use types.Part.{whole, sub, look_in}
use types.Run.{stop, fld, load, of_opd, addr, first, blocks, exec, returns, enter}
use types.ByLocal.{alloc_all, pass_all, free_all, look_at, get, through, sets, sets_last, env}
use denote.RattleType.{owns}
use denote.Exit.{no}
use denote.Follow.{follows, Part, lends_Part}
use denote.Memory.{part_at, mem, cell_at, part_of}
use denote.RawPtr.{Ptr, block_ptr}
use denote.Ref.{MutBor, MutRef, mut_vals, mut_Tells}
use denote.Signature.{plain, mut_ref_to}
use denote.Steps.{nothing, heard, opens}
use denote.Triple.Entry.{on_entry}
use denote.Triple.Spec.{triple_of}
use denote.Triple.Table.{entered}
use denote.Triple.Walked.{says, Stays, stay_dropped, walk_of, ends_at, walked, walk_Meets, Goes-spent_ref}
use Rattle.core.proofs.alloc.Calls.{token}
use Rattle.std_alloc.proofs.BoxSteps.Form.{D, B, R, τ, word, handle}
use Rattle.std_alloc.proofs.BoxSteps.Steps.{box_out, box_in}
use Rattle.std_alloc.proofs.VecSteps.Shapes.{after}
use Rattle.is_c.proofs.ServersAsBox.{E}
use Rattle.is_c.specs.ServersBorrowing.{with_agent}
use Rattle.is_c.specs.declared.servers.handle.ServersHandle.{ServersHandle}
use Rattle.is_c.specs.declared.servers.held.HeldServers.{HeldServers}
use Rattle.is_c.specs.contracts.servers.handle.ServersHandle.{the_row as handle_row}
use Rattle.is_c.specs.contracts.servers.held.HeldServers.{the_row as held_row}
use Rattle.is_c.specs.contracts.servers.handle.ServersHandle.as_mut as F
use Rattle.is_c.specs.contracts.servers.handle.ServersHandle.as_mut.Key.{name as #self}
use Rattle.is_c.proofs.servers.handle.ServersHandle.as_mut.Statement as stated
use Rattle.is_c.proofs.servers.handle.ServersHandle.as_mut.Code as code

abbrev stayed : Stays F.ended.signature.params F.ended.kept
stayed = (stay_dropped (mut_ref_to (0 ∷ []) tt (plain (λ _. handle_row))) no, tt)

-- a handle of these clients, and the box that it came from
abbrev handle_at : Ptr → Global → Option HeldServers → ServersHandle
handle_at p alloc held = record { ptr = p; alloc = alloc; held = held }

abbrev box : Ptr → Global → HeldServers → D E
box p alloc held = record { ptr = p; alloc = alloc; value = held }

module _ {M : Type 1} {𝓤 : Ura M} (𝓛 : Logic 𝓤) (at_mem : Memory → SProp 𝓤) (run : Routine → Fun 𝓤) (𝓣 : Tables 𝓤 𝓛.H) (κ : Lft) (q : Share) (rb ro : ℕ) (γ : GName) (p : Ptr) (alloc : Global) where
  open 𝓛 use {H, A}

  abbrev self : Option HeldServers → MutBor ServersHandle
  self held = record { ref_ptr = (rb, ro); ghost_name = γ; now = handle_at p alloc held }

  abbrev bound : Option HeldServers → (walk_of 𝓛 F.ended stayed (F.clauses 𝓛 at_mem run)).Ghost
  bound held = (((κ, tt), (q, tt), tt, (self held, tt), (vptr rb ro ∷ [], tt)), tt)

  abbrev Post : Option HeldServers → Val → SProp 𝓤
  Post held = (walk_of 𝓛 F.ended stayed (F.clauses 𝓛 at_mem run)).post (bound held)

  module _ (x : HeldServers) (b o : ℕ) (hv : Val) where
    -- all of the handle but the clients
    abbrev Rest : Fml
    Rest = fsep (fsep (token E.al alloc (bare (τ E)) (block_ptr b o)) (handle E alloc hv)) (cell_at full_share handle_row.mir (word E hv b o ∷ []) rb ro)

    back : p ≡ block_ptr b o → (w : HeldServers) → ent 𝓤 (sep 𝓤 (sem 𝓛 ((mem held_row).own_at w b o)) (sem 𝓛 Rest)) (sem 𝓛 ((mem handle_row).own_at (with_agent (handle_at p alloc (Some x)) w) rb ro))
    unfolding part_of
    back at_b w =
        qed 𝓛 (‵ (part_at (R E) full_share w b o) ∷ ‵ Rest ∷ []) ∵ move ! (1 ∷ []) $ fsplit ! $ fsplit ! $ move ! (3 ∷ []) $
        box_in E ! (box p alloc w) b o w at_b refl $ use1 𝓛 (‵ (handle_row.own_val (handle_at p alloc (Some w)) (word E hv b o ∷ []))) (id⊢ 𝓤 _) $ move ! (1 ∷ 0 ∷ []) $ fjoin ! $
        fpack ! (List Val) (λ us. fsep (cell_at full_share handle_row.mir us rb ro) (handle_row.own_val (handle_at p alloc (Some w)) us)) (word E hv b o ∷ []) $ done !

    exits : (γ' : GName)
        → ent 𝓤 (sep 𝓤 (sem 𝓛 ((MutRef (named 0) κ held_row).own_val (record { ref_ptr = (b, o); ghost_name = γ'; now = x }) (vptr b o ∷ []))) (sep 𝓤 (A.lft κ q) (sem 𝓛 (follows handle_row held_row γ γ' (with_agent (handle_at p alloc (Some x))))))) (Post (Some x) (vptr b o))
    exits γ' =
        qed 𝓛 (‵ ((MutRef (named 0) κ held_row).own_val (record { ref_ptr = (b, o); ghost_name = γ'; now = x }) (vptr b o ∷ [])) ∷ ‵ (flft κ q) ∷ ‵ (follows handle_row held_row γ γ' (with_agent (handle_at p alloc (Some x)))) ∷ []) ∵
        suffices ! _ (ends_at 𝓛 F.ended stayed (F.clauses 𝓛 at_mem run) (bound (Some x)) (vptr b o) (record { ref_ptr = (b, o); ghost_name = γ'; now = x }) (tt, tt) (tt, tt)) $
        nothing ! $ nothing ! $ fjoin ! $ join ! $ nothing ! $ move ! (2 ∷ 0 ∷ []) $ join ! $ join ! $ frame ! $ says ! refl $ done !

  walk : (held : Option HeldServers) → ent 𝓤 (sep 𝓤 (on_entry 𝓛 F.ended.signature (κ, tt) (q, tt) (self held, tt) (vptr rb ro ∷ [], tt)) (fact 𝓤 (held ≢ None)))
      (WpFn 𝓤 H 𝓣.C 𝓣.Λ code.function (vptr rb ro ∷ []) (Post held))
  walk None =
      qed 𝓛 (((‵ (flft κ q) ⊛ ‵ ftrue) ⊛ ‵ (owns (MutRef (named 0) κ handle_row ∷ []) (self None, tt) (vptr rb ro ∷ [], tt))) ∷ raw (fact 𝓤 (None ≢ None)) ∷ []) ∵
      move ! (1 ∷ []) $ heard ! (None ≢ None) (λ e. absurd (e refl))
  walk (Some x) =
      qed 𝓛 (((‵ (flft κ q) ⊛ ‵ ftrue) ⊛ ‵ (owns (MutRef (named 0) κ handle_row ∷ []) (self (Some x), tt) (vptr rb ro ∷ [], tt))) ∷ raw (fact 𝓤 (Some x ≢ None)) ∷ []) ∵
      move ! (1 ∷ []) $ heard ! (Some x ≢ None) (λ there. split ! $
      enter ! 𝓣.C 𝓣.Λ code.function (vptr rb ro ∷ []) _ $ alloc_all ! (λ l. pass_all ! refl ((tt, tt), tt) $
      let En : Env 𝓤 H = env code.function.locals l in
      move ! (1 ∷ []) $ fsplit ! $ fsplit3 ! $ drop ! $ move ! (3 ∷ []) $ split ! $ move ! (2 ∷ 3 ∷ 0 ∷ []) $
      opens ! tt handle_row rb ro (λ vs. move ! (1 ∷ []) $ use1 𝓛 (‵ ((B E).own_val (box p alloc x) vs)) (id⊢ 𝓤 _) $
      box_out E ! (box p alloc x) vs (λ b o hv at_b ws fa. move ! (1 ∷ 2 ∷ []) $ fjoin ! $ move ! (1 ∷ []) $
      rewrite ! 2 (λ (us : List Val). ‵ (cell_at full_share handle_row.mir us rb ro)) ws refl $
      -- [the clients; the right to free it, with the allocator; the handle's word; the open borrow, with its name's two halves]
      first ! $ blocks ! $
      sets ! (of_opd ! (load ! (through ! refl (fld ! refl (stop !))) (look_in ! 2 (sub ! 0 refl (whole !))))) refl (tt, tt) $
      sets ! (of_opd ! (get ! refl)) refl (tt, tt) $
      sets_last ! (addr ! (through ! refl (stop !))) refl (tt, tt) $
      exec ! 𝓣.C 𝓣.Λ En (after 1 code.function.body) (at_ret En (Post (Some x))) $
      sets ! (of_opd ! (get ! refl)) refl (tt, tt) $
      move ! (1 ∷ 2 ∷ []) $ fjoin ! $ move ! (2 ∷ 3 ∷ 4 ∷ 1 ∷ 0 ∷ []) $ group ! 5 $
      use1 𝓛 (later (some (λ (γ' : GName). raw (Part 𝓛 handle_row held_row (with_agent (handle_at p alloc (Some x))) (named 0) κ q rb ro b o γ (sem 𝓛 (Rest x b o hv)) (back x b o hv at_b) x γ'))))
      (lends_Part 𝓛 handle_row held_row (with_agent (handle_at p alloc (Some x))) (named 0) κ q rb ro b o γ (sem 𝓛 (Rest x b o hv)) (back x b o hv at_b) (handle_row.coded.code (handle_at p alloc (Some x))) (handle_row.coded.code (handle_at p alloc (Some x))) x) $ await ! tt $ pick ! (λ γ'.
      returns ! (look_at ! 0 refl) $ free_all ! refl $
      keep ! (0 ∷ []) $ by ! (exits x b o hv γ'))))))

pub as_mut_spec : {M : Type 1} → stated.statement M
unfolding tables_of
as_mut_spec 𝓤 𝓛 𝓜 𝓡 wired =
    let 𝓣 : Tables 𝓤 𝓛.H = tables_of 𝓤 𝓛.H 𝓜 (tables 𝓤 𝓛.H 𝓜 𝓡 𝓡.env) in
    let c = F.clauses 𝓛 𝓜.mem 𝓡.returns in
    let runs = WpFn 𝓤 𝓛.H 𝓣.C 𝓣.Λ code.function in
    entered 𝓤 𝓛.H (triple_of 𝓛 F.signature (F.spec 𝓛 𝓜.mem 𝓡.returns)) 𝓣.C 𝓣.Λ #self code.function (code.unfolded 𝓤 𝓛.H 𝓜 𝓡 wired)
    (walk_Meets 𝓛 F.ended stayed (Goes-spent_ref 𝓛 1 (0 ∷ []) tt (plain (λ _. handle_row)), tt) c runs (WpFn-mono 𝓤 𝓛.H 𝓛.laws 𝓣 code.function)
    (walked 𝓛 F.ended stayed c runs (λ κs. (mut_vals, tt)) (λ κs. (mut_Tells (named 0) κs.0 handle_row, tt))
    (λ κs qs bounds a g are. walk 𝓛 𝓜.mem 𝓡.returns 𝓣 κs.0 qs.0 a.0.ref_ptr.0 a.0.ref_ptr.1 a.0.ghost_name a.0.now.ptr a.0.now.alloc a.0.now.held)))
