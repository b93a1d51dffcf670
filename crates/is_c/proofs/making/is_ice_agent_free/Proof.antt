-- `is_ice_agent_free` returns at a null pointer. Else it passes the slot at the pointer to `free`, and gets it back.
use mathlib.Core.Path.{◌≡◌, refl, sym, ap, subst}
use Rattle.std.specs.Prelude.{Option, None}
use mathlib.Core.List.{List, [], ◌∷◌, ◌++◌}
use lib.Dec.{lit<}
use seplogic.Ra.Ura.{Ura}
use base.Fraction.{full_share}
use base.Fml.{Fml, GName, ftrue, fsep, feq, flft, flent}
use base.Logic.{SProp, ent, id⊢}
use mir.Syntax.{named}
use mir.Val.{Val, vptr, vnull, vunit}
use prog.Memory.{Memory}
use prog.Routine.{Routine}
use prog.Wp.{Calls, Env, Loops, WpFn, Tables}
use types.Logic.{Logic, sem}
use contract.Monad.{Fun, fact}
use contract.Running.{tables, tables_of}
use sound.WpLaws.{FmC, fm_of, WpFn-mono}
use types.Kit.{⋆, ‵, raw, ◌⊛◌, some, later, at_ret, ◌$◌, ◌∵◌, !, qed, by, move, keep, drop, use1, use2, use3, split, join, group, pick, await, fsplit, fjoin, fpack, feq_i, feq_l, suffices, done}
use types.SemTy.{Body}
use types.Tokens.{lft_new, lft_end}
use types.Run.{bin, lit, unit_lit, addr, stop, of_opd, no_more, and_then, first, branches, skips, exec, returns, returns_within, enter}
use types.ByLocal.{alloc_all, pass_all, free_all, look_at, get, through, sets, lands_as, env}
use denote.RattleType.{owns}
use denote.Exit.{yes}
use denote.Builtin.{unit}
use denote.Lend.{lends_ref, ref_back}
use denote.Memory.{mem}
use denote.RawPtr.{Ptr, RawPtr, block_ptr, null_ptr, ptr_val, Testable, tests_null, lies_at}
use denote.Ref.{MutRef}
use denote.Signature.{plain}
use denote.Steps.{nothing, heard, only}
use denote.Triple.Statement.{Contract, Triple}
use denote.Triple.Call.{calls_at}
use denote.Triple.Clauses.{lasts}
use denote.Triple.Spec.{triple_of}
use denote.Triple.Table.{entered}
use denote.Triple.Walked.{Stays, stay_dropped, walk_of, ends_at, Goes-dropped, walk_Meets}
use Rattle.core.specs.Ptr.{if_non_null}
use Rattle.core.proofs.alloc.Calls.{Fits, handle_tells}
use Rattle.std.specs.Global.{Global}
use Rattle.std_heap.specs.contracts.Global as Heap
use Rattle.is_c.proofs.AsBox.{E}
use Rattle.is_c.specs.Freeing.{freed_at}
use Rattle.is_c.specs.Slots.{held_by}
use Rattle.is_c_calls.specs.Held.{HeldRecord}
use Rattle.is_c.specs.declared.slot.Slot.{Slot}
use Rattle.is_c.specs.contracts.slot.Slot.{the_row as slot_row}
use Rattle.is_c.specs.contracts.making.free as g
use Rattle.is_c.proofs.making.free.Symbol.{name as #free}
use Rattle.is_c.proofs.making.free.Met as of_thm
use Rattle.is_c.specs.contracts.making.is_ice_agent_free as f
use Rattle.is_c.specs.contracts.making.is_ice_agent_free.Key.{name as #self}
use Rattle.is_c.proofs.making.is_ice_agent_free.Statement as stated
use Rattle.is_c.proofs.making.is_ice_agent_free.Code as code

abbrev stayed : Stays f.ended.signature.params f.ended.kept
stayed = (stay_dropped (plain (λ _. Heap.the_row)) yes, (stay_dropped (plain (λ _. RawPtr)) yes, tt))

module _ {M : Type 1} {𝓤 : Ura M} (𝓛 : Logic 𝓤) (at_mem : Memory → SProp 𝓤) (run : Routine → Fun 𝓤) where
  abbrev Of : Contract 𝓤
  Of = triple_of 𝓛 g.signature (g.spec 𝓛 at_mem run)

module _ {M : Type 1} {𝓤 : Ura M} (𝓛 : Logic 𝓤) (at_mem : Memory → SProp 𝓤) (run : Routine → Fun 𝓤) (C : Calls 𝓤 𝓛.H) (Λ : Loops 𝓤 𝓛.H) (fm : FmC 𝓤 𝓛.H 𝓛.laws C)
    (known : Triple 𝓤 (C #free) (Of 𝓛 at_mem run)) (a : Global) (x : Slot) where
  open 𝓛 use {H}

  abbrev bound : Ptr → List Val → List Val → (walk_of 𝓛 f.ended stayed (f.clauses 𝓛 at_mem run)).Ghost
  bound p us vs = ((tt, tt, tt, (a, (p, tt)), (us, (vs, tt))), x)

  abbrev Post : Ptr → List Val → List Val → Val → SProp 𝓤
  Post p us vs = (walk_of 𝓛 f.ended stayed (f.clauses 𝓛 at_mem run)).post (bound p us vs)

  abbrev Runs : Ptr → List Val → List Val → SProp 𝓤
  Runs p us vs = WpFn 𝓤 H C Λ code.function (us ++ (vs ++ [])) (Post p us vs)

  abbrev owns_alloc : Val → Fml
  owns_alloc hv = Heap.the_row.own_val a (hv ∷ [])

  -- the end, with what the `ensures` says of the memory
  exits : (p : Ptr) (hv : Val) → ent 𝓤 (sem 𝓛 (if_non_null p (freed_at p))) (Post p (hv ∷ []) (ptr_val p ∷ []) vunit)
  exits p hv =
      qed 𝓛 (‵ (if_non_null p (freed_at p)) ∷ []) ∵
      suffices ! _ (ends_at 𝓛 f.ended stayed (f.clauses 𝓛 at_mem run) (bound p (hv ∷ []) (ptr_val p ∷ [])) vunit tt (tt, (tt, tt)) (tt, (tt, tt))) $
      feq_i ! _ (vunit ∷ []) _ refl $ nothing ! $ nothing ! $ join ! $ nothing ! $ join ! $ nothing ! $ group ! 3 $ done !

  runs : (p : Ptr) (hv : Val) → Fits E.al hv → Testable p → ent 𝓤 (⋆ 𝓛 (‵ (if_non_null p (lies_at slot_row full_share p x)) ∷ ‵ (owns_alloc hv) ∷ [])) (Runs p (hv ∷ []) (ptr_val p ∷ []))
  runs null_ptr hv fa may =
      qed 𝓛 (‵ ftrue ∷ ‵ (owns_alloc hv) ∷ []) ∵ enter ! C Λ code.function (hv ∷ vnull ∷ []) _ $ alloc_all ! (λ l. pass_all ! refl (fa, ((tt, record { fits = lit< tt }), tt)) $
      sets ! (bin ! (get ! refl) (lit ! tt) (tests_null null_ptr may)) refl (tt, tt) $
      first ! $ branches ! (get ! refl)
      (λ t. sets ! (of_opd ! (unit_lit !)) refl (tt, tt) $
      returns_within ! (Post null_ptr (hv ∷ []) (ptr_val null_ptr ∷ [])) refl (look_at ! 0 refl) $ free_all ! refl $ keep ! (0 ∷ []) $ by ! (exits null_ptr hv))
      (λ t. absurd t))
  runs (block_ptr b o) hv fa may =
      let ws : List Val = vptr b o ∷ [] in
      qed 𝓛 (‵ (lies_at slot_row full_share (block_ptr b o) x) ∷ ‵ (owns_alloc hv) ∷ []) ∵
      enter ! C Λ code.function (hv ∷ vptr b o ∷ []) _ $ alloc_all ! (λ l. pass_all ! refl (fa, ((tt, tt), tt)) $
      let En : Env 𝓤 H = env code.Mir.locals l in
      sets ! (bin ! (get ! refl) (lit ! tt) (tests_null (block_ptr b o) may)) refl (tt, tt) $
      first ! $ branches ! (get ! refl) (λ t. absurd t)
      (λ t. skips ! $ exec ! C Λ En code.Mir.t-3 (at_ret En (Post (block_ptr b o) (hv ∷ []) ws)) $
      -- [the slot; the allocator]
      sets ! (addr ! (through ! refl (stop !))) refl (tt, tt) $
      lft_new ! tt (λ α. move ! (1 ∷ []) $
      use1 𝓛 (later (some (λ (γ : GName). ‵ ((MutRef (named 0) (α ∷ []) slot_row).own_val (record { ref_ptr = (b, o); ghost_name = γ; now = x }) ws) ⊛ ‵ (flent (α ∷ []) (Body (mem slot_row) b o γ)))))
      (lends_ref 𝓛 slot_row (named 0) (α ∷ []) x b o) $ await ! tt $ pick ! (λ γ. split ! $
      -- [the loan; what the lender keeps; the token of α; the allocator]
      let y : (Of 𝓛 at_mem run).Ghost = (((α ∷ [], tt), (full_share, tt), tt, (a, (record { ref_ptr = (b, o); ghost_name = γ; now = x }, tt)), (hv ∷ [], (ws, tt))), tt) in
      nothing ! $ move ! (1 ∷ 0 ∷ []) $ join ! $ move ! (3 ∷ 0 ∷ []) $ join ! $ nothing ! $ move ! (3 ∷ 0 ∷ []) $ join ! $ join ! $
      nothing ! $ move ! (1 ∷ 0 ∷ []) $ use2 𝓛 (raw ((Of 𝓛 at_mem run).pre y)) (id⊢ 𝓤 _) $
      calls_at ! fm (Of 𝓛 at_mem run) known y (and_then ! (get ! refl) (and_then ! (get ! refl) (no_more !))) (λ v.
      use1 𝓛 (later (some (λ (u : Unit {0}). ((‵ (flft (α ∷ []) full_share) ⊛ ‵ ftrue) ⊛ ‵ (unit.own_val u (v ∷ []))) ⊛
      some (λ (us : Unit {0} × (Slot × Unit {0})). ‵ (lasts g.ended y.0.0 y.0.3 us) ⊛ raw (fact 𝓤 (held_by us.1.0 ≡ None)))))) (id⊢ 𝓤 _) $
      await ! tt $ pick ! (λ u. split ! $ split ! $ split ! $ lft_end ! tt $ move ! (2 ∷ []) $ feq_l ! (λ is_unit.
      lands_as ! (ap only is_unit) refl (tt, tt) $
      move ! (2 ∷ []) $ pick ! (λ us. split ! $ move ! (1 ∷ []) $ heard ! _ (λ is_freed. fsplit ! $ drop ! $ fsplit ! $ fsplit ! $
      -- [the loan's last value; its borrow; nothing; α is over; nothing; what the lender keeps]
      move ! (3 ∷ 5 ∷ 0 ∷ []) $ use3 𝓛 (later (‵ (lies_at slot_row full_share (block_ptr b o) us.1.0))) (ref_back 𝓛 slot_row (α ∷ []) γ us.1.0 b o) $ await ! tt $
      sets ! (of_opd ! (unit_lit !)) refl (tt, tt) $
      returns ! (look_at ! 0 refl) $ free_all ! refl $
      feq_i ! (Option HeldRecord) (held_by us.1.0) None is_freed $ move ! (1 ∷ 0 ∷ []) $ fjoin ! $
      fpack ! Slot (λ s. fsep (lies_at slot_row full_share (block_ptr b o) s) (feq (Option HeldRecord) (held_by s) None)) us.1.0 $ keep ! (0 ∷ []) $ by ! (exits (block_ptr b o) hv))))))))))

  entry : (p : Ptr) (us vs : List Val) → ent 𝓤 ((walk_of 𝓛 f.ended stayed (f.clauses 𝓛 at_mem run)).pre (bound p us vs)) (Runs p us vs)
  entry p us vs =
      qed 𝓛 ((‵ ftrue ⊛ ‵ (owns (Heap.the_row ∷ RawPtr ∷ []) (a, (p, tt)) (us, (vs, tt)))) ∷ (raw (fact 𝓤 (Testable p)) ⊛ ‵ (if_non_null p (lies_at slot_row full_share p x))) ∷ []) ∵
      split ! $ drop ! $ fsplit ! $ handle_tells E.al ! a us (λ hv ea fa. move ! (1 ∷ []) $ fsplit ! $ feq_l ! (λ ev. drop ! $ move ! (1 ∷ []) $ split ! $ heard ! (Testable p) (λ may.
      by ! (subst (λ (vss : List Val × List Val). ent 𝓤 (⋆ 𝓛 (‵ (if_non_null p (lies_at slot_row full_share p x)) ∷ ‵ (owns_alloc hv) ∷ [])) (Runs p vss.0 vss.1)) (λ j. (sym ea j, sym ev j)) (runs p hv fa may)))))

pub is_ice_agent_free_spec : {M : Type 1} → stated.statement M
unfolding tables_of
is_ice_agent_free_spec 𝓤 𝓛 𝓜 𝓡 wired =
    let 𝓣 : Tables 𝓤 𝓛.H = tables_of 𝓤 𝓛.H 𝓜 (tables 𝓤 𝓛.H 𝓜 𝓡 𝓡.env) in
    entered 𝓤 𝓛.H (triple_of 𝓛 f.signature (f.spec 𝓛 𝓜.mem 𝓡.returns)) 𝓣.C 𝓣.Λ #self code.function (code.unfolded 𝓤 𝓛.H 𝓜 𝓡 wired)
    (walk_Meets 𝓛 f.ended stayed (Goes-dropped 𝓛 0 (plain (λ _. Heap.the_row)) yes (λ κs x w. refl), (Goes-dropped 𝓛 0 (plain (λ _. RawPtr)) yes (λ κs x w. refl), tt))
    (f.clauses 𝓛 𝓜.mem 𝓡.returns) (WpFn 𝓤 𝓛.H 𝓣.C 𝓣.Λ code.function) (WpFn-mono 𝓤 𝓛.H 𝓛.laws 𝓣 code.function)
    (λ z. entry 𝓛 𝓜.mem 𝓡.returns 𝓣.C 𝓣.Λ (fm_of 𝓤 𝓛.H 𝓛.laws 𝓣) (of_thm.met 𝓤 𝓛 𝓜 𝓡 (code.calls-is_c::making::free 𝓡.env wired)) z.0.3.0 z.1 z.0.3.1.0 z.0.4.0 z.0.4.1.0))
