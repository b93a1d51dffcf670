-- `add_local_candidate` calls `add_and_borrow_local`, and widens its error. Assumes `Logic`.
use Rattle.std.proofs.Common.{◌≡◌, List, [], ◌∷◌, ◌++◌, refl, sym, subst, Result, Option}
use Rattle.std.specs.Bool.{⊤}
use mathlib.Core.Option as maybe
use seplogic.Ra.Ura.{Ura}
use lib.Dec.{T}
use mir.Syntax.{Ty, a_type, dcons, dnil, named}
use mir.Val.{Val, vptr, has_ty, WT}
use mir.MapTy.{inst_fn}
use base.Logic.{SProp, ent, id⊢}
use base.Fml.{ftrue, flft}
use prog.Wp.{WpFn}
use types.Logic.{Logic, sem}
use types.Kit.{‵, raw, ◌⊛◌, some, later, ◌$◌, ◌∵◌, !, qed, by, move, keep, drop, split, join, fjoin, fpick, fpack, pick, suffices, rewrite, use1, use2, await, done}
use types.Run.{stop, addr, of_opd, no_more, and_then, returns, enter}
use types.ByLocal.{alloc_all, pass_all, free_all, look_at, get, through, sets, lands_as}
use contract.Monad.{fact}
use contract.Running.{tables}
use denote.Exit.{no, yes}
use denote.RattleType.{RattleType, owns}
use denote.Laws.{Typed, Is, shows}
use denote.Ref.{Bor, MutBor, mut_Tells}
use denote.Builtin.{RefMutOf}
use denote.Signature.{types_at, type_at, plain}
use denote.Steps.{nothing, heard, peeks}
use denote.Param.{param, bounded, layout}
use denote.HoleKnot.{shared_laws}
use denote.Follow.{follows_by, such_by}
use denote.Triple.Clauses.{Lasts, lasts}
use denote.Triple.Spec.{triple_of}
use denote.Triple.Call.{calls_at}
use denote.Triple.Table.{framed}
use denote.Triple.Walked.{Stays, stay_dropped, walk_of, Goes-dropped, Goes-spent_ref}
use Rattle.std.proofs.raw_atomic.Walks.{proved_at, leaves}
use Rattle.std.proofs.option.Option.TheLaws as option_laws
use Rattle.std.proofs.result.Result.TheLaws as result_laws
use Rattle.is_candidate.proofs.candidate.Candidate.TheLaws as candidate_laws
use Rattle.is_proto.proofs.error.IceError.TheLaws as error_laws
use Rattle.is_rules.proofs.local.Rejection.TheLaws as refusal_laws
use Rattle.is_candidate.specs.contracts.candidate.Candidate as candidate
use Rattle.is_agent.specs.contracts.agent.Agent as agent
use Rattle.is_agent.specs.contracts.agent.Agent.add_and_borrow_local as g
use Rattle.is_agent.specs.contracts.local.widen as w
use Rattle.is_agent.proofs.agent.Agent.add_and_borrow_local.Met as g_met
use Rattle.is_agent.proofs.local.widen.Met as w_met
use Rattle.is_agent.specs.Borrows.{EndsAs}
use Rattle.is_rules.specs.Local.{BorrowsLocal, widened}
use Rattle.is_candidate.specs.Candidates.{CandidateRecord}
use Rattle.is_proto.specs.declared.error.IceError.{IceError}
use Rattle.is_agent.specs.View.{record_of}
use Rattle.is_agent.specs.contracts.agent.Agent.add_local_candidate as f
use Rattle.is_agent.specs.contracts.agent.Agent.add_local_candidate.Key.{name as #self}
use Rattle.is_agent.proofs.agent.Agent.add_local_candidate.Statement.{statement}
use Rattle.is_agent.proofs.agent.Agent.add_local_candidate.Code as code

-- one value of one type
single : (τ : Ty) (vs : List Val) → Typed (τ ∷ []) vs → (v : Val) × ((vs ≡ v ∷ []) × (T (has_ty τ v) × WT v))
single τ [] t = absurd t
single τ (v ∷ []) t = (v, (refl, t.0))
single τ (v ∷ w ∷ ws) t = absurd t.1

-- a fact that follows from the stated one
ends_also : {M : Type 1} {𝓤 : Ura M} (𝓛 : Logic 𝓤) (R : RattleType) (s : MutBor R.Denot) (P Q : R.Denot → Type 0) → ((n : R.Denot) → P n → Q n) → ent 𝓤 (sem 𝓛 (EndsAs R s P)) (sem 𝓛 (EndsAs R s Q))
unfolding such_by
ends_also 𝓛 R s P Q to =
    let Of : Type 0 = (x : (R.Denot → R.Denot) × R.Denot) × (R.Denot → ⊤) × Q x.1 in
    qed 𝓛 (‵ (EndsAs R s P) ∷ []) ∵ fpick ! (λ x. fpack ! Of (λ (x : Of). follows_by R.Denot R.Denot R.coded.code R.coded.code s.ghost_name maybe.none x.0.0 x.0.1) (x.0, x.1, to x.0.1 x.2) $ done !)

pub add_local_candidate_spec : {M : Type 1} → statement M
add_local_candidate_spec 𝓤 𝓛 𝓜 𝓡 wired A B LA LB gA dA gB dB dDA dDB mA mB mDA mDB =
    let H = 𝓛.H in let 𝓣 = tables 𝓤 H 𝓜 𝓡 𝓡.env in let Row : RattleType = agent.the_row (param 0 A) (param 1 B) in let Cand : RattleType = candidate.the_row in
    let En = f.ended A B gA dA gB dB dDA dDB in let c = f.clauses A B gA dA gB dB dDA dDB 𝓛 𝓜.mem 𝓡.returns in
    let inst = bounded (a_type ∷ a_type ∷ []) (A, (B, tt)) (dcons dA (dcons dB (dcons dDA (dcons dDB dnil)))) in let fn = inst_fn inst code.function in
    let self = RefMutOf (0 ∷ []) tt (plain (λ _. Row)) (λ _. tt) in
    let hs : Stays En.signature.params En.kept = (stay_dropped self no, (stay_dropped (plain (λ _. Cand)) yes, tt)) in
    proved_at 𝓛 En hs c 𝓜 𝓡 (Goes-spent_ref 𝓛 3 (0 ∷ []) tt (plain (λ _. Row)), (Goes-dropped 𝓛 3 (plain (λ _. Cand)) yes (λ κs x w. refl), tt)) (#self inst) fn (code.unfolded 𝓤 H 𝓜 𝓡 wired (A, (B, tt)) dA dB dDA dDB) (λ z are.
    let κs = z.0.0 in let qs = z.0.1 in let a = z.0.3 in let Post : Val → SProp 𝓤 = (walk_of 𝓛 En hs c).post z in let Run : List Val → SProp 𝓤 = λ ws. WpFn 𝓤 H 𝓣.C 𝓣.Λ fn ws Post in
    let b = a.0.ref_ptr.0 in let o = a.0.ref_ptr.1 in
    let e0 : z.0.4.0 ≡ vptr b o ∷ [] = mut_Tells (named 0) κs.0 Row a.0 z.0.4.0 are.0 in
    let one = single (layout Cand) z.0.4.1.0 ((candidate_laws.the_row_laws.lawful 𝓛).typed a.1.0 z.0.4.1.0 are.1.0) in let v = one.0 in
    let toks = ‵ (flft κs.0 qs.0) ⊛ ‵ (flft κs.1.0 qs.1.0) ⊛ ‵ (flft κs.1.1.0 qs.1.1.0) ⊛ ‵ ftrue in
    let G = triple_of 𝓛 (g.signature A B) (g.spec A B gA dA gB dB dDA dDB 𝓛 𝓜.mem 𝓡.returns) in
    let y : G.Ghost = ((κs, qs, z.0.2, a, (vptr b o ∷ [], (v ∷ [], tt))), tt) in
    let W = triple_of 𝓛 w.signature (w.spec 𝓛 𝓜.mem 𝓡.returns) in
    let In : RattleType = type_at (g.signature A B).result κs in
    let Out : RattleType = type_at En.signature.result κs in
    let ref = shared_laws (record { mir = named 0; lft = κs.0 }) Cand candidate_laws.the_row_laws in
    let in_lemmas = result_laws.the_row_laws _ _ (option_laws.the_row_laws _ ref) refusal_laws.the_row_laws in
    let out_lemmas = result_laws.the_row_laws _ _ (option_laws.the_row_laws _ ref) error_laws.the_row_laws in
    let fm = framed 𝓤 H 𝓜 𝓣 in
    qed 𝓛 ((toks ⊛ ‵ (owns (types_at En.signature.params κs) a z.0.4)) ∷ raw ((c κs a).requires z.1) ∷ []) ∵
    rewrite ! 0 (λ (ws : List Val × List Val). toks ⊛ ‵ (owns (types_at En.signature.params κs) a (ws.0, (ws.1, tt)))) (λ i. (e0 i, one.1.0 i)) refl $
    join ! $ use1 𝓛 (raw (G.pre y)) (id⊢ 𝓤 _) $
    suffices ! (Run (vptr b o ∷ v ∷ [])) (subst (λ (us : List Val × List Val). ent 𝓤 (Run (vptr b o ∷ v ∷ [])) (Run (us.0 ++ (us.1 ++ [])))) (λ i. (sym e0 i, sym one.1.0 i)) (id⊢ 𝓤 (Run (vptr b o ∷ v ∷ [])))) $
    enter ! 𝓣.C 𝓣.Λ fn (vptr b o ∷ v ∷ []) Post $ alloc_all ! (λ l. pass_all ! refl ((tt, tt), (one.1.1, tt)) $
    sets ! (addr ! (through ! refl (stop !))) refl (tt, tt) $ sets ! (of_opd ! (get ! refl)) refl one.1.1 $
    calls_at ! fm G (g_met.met 𝓤 𝓛 𝓜 𝓡 (code.calls-is_agent::agent::Agent::add_and_borrow_local 𝓡.env wired) A B LA LB gA dA gB dB dDA dDB mA mB mDA mDB) y (and_then ! (get ! refl) (and_then ! (get ! refl) (no_more !))) (λ u.
    use1 𝓛 (later (some (λ (r : In.Denot). (toks ⊛ ‵ (In.own_val r (u ∷ []))) ⊛ some (λ (ls : Lasts (g.ended A B gA dA gB dB dDA dDB) κs a). ‵ (lasts (g.ended A B gA dA gB dB dDA dDB) κs a ls)
    ⊛ ‵ (EndsAs Row a.0 (λ n. BorrowsLocal gB.answers (record_of a.0.now) a.1.0 (widened r) (record_of n))))))) (id⊢ 𝓤 (G.post y u)) $
    await ! tt $ pick ! (λ r. split ! $ move ! (1 ∷ []) $ pick ! (λ _. split ! $ drop ! $ move ! (1 ∷ []) $ split ! $ move ! (1 ∷ []) $
    peeks ! In (Is In) (shows 𝓛 In) r (u ∷ []) (λ is. lands_as ! refl refl ((in_lemmas.lawful 𝓛).typed r (u ∷ []) is).0 $
    -- [what was shown; the tokens; how the borrow ends]
    let y' : W.Ghost = (((κs.0, tt), (qs.0, tt), tt, (r, tt), (u ∷ [], tt)), tt) in
    nothing ! $ move ! (1 ∷ 0 ∷ []) $ join ! $ move ! (1 ∷ []) $ split ! $ nothing ! $ move ! (1 ∷ 0 ∷ []) $ join ! $ move ! (0 ∷ 2 ∷ []) $ join ! $
    nothing ! $ move ! (1 ∷ 0 ∷ []) $ use2 𝓛 (raw (W.pre y')) (id⊢ 𝓤 _) $
    calls_at ! fm W (w_met.met 𝓤 𝓛 𝓜 𝓡 (code.calls-is_agent::local::widen 𝓡.env wired)) y' (and_then ! (get ! refl) (no_more !)) (λ u'.
    use1 𝓛 (later (some (λ (r' : Out.Denot). ((‵ (flft κs.0 qs.0) ⊛ ‵ ftrue) ⊛ ‵ (Out.own_val r' (u' ∷ []))) ⊛
    some (λ (ls : Lasts w.ended (κs.0, tt) (r, tt)). ‵ (lasts w.ended (κs.0, tt) (r, tt) ls) ⊛ raw (fact 𝓤 (r' ≡ widened r)))))) (id⊢ 𝓤 (W.post y' u')) $
    await ! tt $ pick ! (λ r'. split ! $ move ! (1 ∷ []) $ pick ! (λ _. split ! $ drop ! $ heard ! (r' ≡ widened r) (λ same. split ! $ move ! (1 ∷ []) $
    peeks ! Out (Is Out) (shows 𝓛 Out) r' (u' ∷ []) (λ is'. lands_as ! refl refl ((out_lemmas.lawful 𝓛).typed r' (u' ∷ []) is').0 $
    returns ! (look_at ! 0 refl) $ free_all ! refl $
    -- [the result; its token; the other tokens; how the borrow ends]
    move ! (1 ∷ []) $ split ! $ move ! (0 ∷ 3 ∷ []) $ join ! $ nothing ! $ nothing ! $ fjoin ! $ nothing ! $ fjoin ! $ move ! (4 ∷ []) $
    use1 𝓛 (‵ (EndsAs Row a.0 (λ n. BorrowsLocal gB.answers (record_of a.0.now) a.1.0 r' (record_of n))))
    (ends_also 𝓛 Row a.0 _ _ (λ n p. subst (λ (x : Result (Option (Bor CandidateRecord)) IceError). BorrowsLocal gB.answers (record_of a.0.now) a.1.0 x (record_of n)) (sym same) p)) $
    keep ! (2 ∷ 1 ∷ 4 ∷ 0 ∷ []) $ by ! (leaves 𝓛 En hs c z u' r' (tt, (tt, tt)) (tt, (tt, tt))))))))))))))
