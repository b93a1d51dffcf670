use Rattle.std.proofs.Common.{List, length, arith, refl, ap, sym, subst, ◌∙◌}
use Rattle.is_candidate.specs.Candidates.{CandidateRecord}
use Rattle.is_rules.specs.Agent.{AgentRecord}
use Rattle.is_rules.specs.RequestView.{request_view}
use Rattle.is_rules.specs.Roles.{conflict_of}
use Rattle.is_rules.specs.Serving.{is_misled, request_counted, sender_added}
use Rattle.is_agent.specs.Ready.{IsWithin}
use Rattle.is_agent.specs.View.{record_of}
use Rattle.is_agent.proofs.AgentParts.StepsOfServing.{answered-487, counted, joined, misled, nowhere, number-left, paired, resolved, responded, role-kept, sender-same, unpaired}
use Rattle.is_agent.proofs.agent.Agent.serve_at.Goals as goal

-- ---- what the steps need

pub add_sender-requires : goal.add_sender-requires
add_sender-requires g c =
    let q = request_view c.args.request.now in let s = record_of c.args.self.now in let place = c.args.at.remote in
    let made = c.count_request.ensures.counted ∙ ap (λ (a : AgentRecord g.row.H.Denot g.row.P.Denot). request_counted a) c.resolve_role_conflict.ensures.record in
    let kept = role-kept (conflict_of s q) s in
    let remote = ap (λ (a : AgentRecord g.row.H.Denot g.row.P.Denot). a.remote) made ∙ kept.remote in
    let creds = ap (λ (a : AgentRecord g.row.H.Denot g.row.P.Denot). a.local_creds) made ∙ kept.creds in
    record {
      within = subst (λ (cs : List CandidateRecord). IsWithin (length cs) place) (sym remote) c.requires.remote;
      sender = c.requires.sender ∙ sender-same q place s (record_of c.count_request.new.self) creds;
      room = c.count_request.ensures.room (c.resolve_role_conflict.ensures.room c.requires.room);
    }

pub find_or_add_pair-requires-clause-local : goal.find_or_add_pair-requires-clause-local
find_or_add_pair-requires-clause-local g c =
    let q = request_view c.args.request.now in let s = record_of c.args.self.now in
    let made = c.count_request.ensures.counted ∙ ap (λ (a : AgentRecord g.row.H.Denot g.row.P.Denot). request_counted a) c.resolve_role_conflict.ensures.record in
    let local = ap (λ (a : AgentRecord g.row.H.Denot g.row.P.Denot). length a.local) made ∙ ap (λ (cs : List CandidateRecord). length cs) (role-kept (conflict_of s q) s).local in
    omega (arith, c.requires.local, c.add_sender.ensures.local, local)

pub find_or_add_pair-requires-clause-number : goal.find_or_add_pair-requires-clause-number
find_or_add_pair-requires-clause-number g c =
    let q = request_view c.args.request.now in let s = record_of c.args.self.now in let k = conflict_of s q in
    let made = c.count_request.ensures.counted ∙ ap (λ (a : AgentRecord g.row.H.Denot g.row.P.Denot). request_counted a) c.resolve_role_conflict.ensures.record in
    let role = ap (λ (a : AgentRecord g.row.H.Denot g.row.P.Denot). is_misled a.controlling q) c.resolve_role_conflict.ensures.record in
    number-left k q c.args.at c.in-Some.r s (record_of c.add_sender.new.self) (record_of c.count_request.new.self).remote
    (c.add_sender.ensures.added ∙ ap (λ (a : AgentRecord g.row.H.Denot g.row.P.Denot). sender_added q c.args.at.remote a) made)
    (sym c.sends_487.ensures ∙ c.if-sends_487.false)
    (sym role ∙ sym c.is_misled.ensures ∙ c.if-is_misled.false)
    (sym c.add_sender.ensures.index ∙ c.in-Some.is) c.requires.number

-- ---- where serving ends

pub returns-then-sends_487-clause-served : goal.returns-then-sends_487-clause-served
returns-then-sends_487-clause-served g c =
    answered-487 g.H.Sha1HmacProvider.mac (request_view c.args.request.now) c.send_role_conflict.result (record_of c.send_role_conflict.new.self)
    c.args.at (record_of c.args.self.now) (sym c.sends_487.ensures ∙ c.if-sends_487.true) c.send_role_conflict.ensures.conflict_sent

pub returns-then-is_misled-clause-served : goal.returns-then-is_misled-clause-served
returns-then-is_misled-clause-served g c =
    let mac = g.H.Sha1HmacProvider.mac in let q = request_view c.args.request.now in let s1 = record_of c.resolve_role_conflict.new.self in
    resolved mac q c.nothing.result s1 c.args.at (record_of c.args.self.now) s1 (sym c.sends_487.ensures ∙ c.if-sends_487.false) c.resolve_role_conflict.ensures.record
    (misled mac q c.nothing.result s1 c.args.at.local c.args.at.remote c.args.at.pair s1 (sym c.is_misled.ensures ∙ c.if-is_misled.true) (c.nothing.ensures, refl))

pub returns-in_default-clause-served : goal.returns-in_default-clause-served
returns-in_default-clause-served g c =
    let mac = g.H.Sha1HmacProvider.mac in let q = request_view c.args.request.now in let at = c.args.at in let e = c.nothing-in_default.result in
    let s1 = record_of c.resolve_role_conflict.new.self in let s2 = record_of c.count_request.new.self in let new = record_of c.add_sender.new.self in
    resolved mac q e new at (record_of c.args.self.now) s1 (sym c.sends_487.ensures ∙ c.if-sends_487.false) c.resolve_role_conflict.ensures.record
    (counted mac q e new at.local at.remote at.pair s1 s2 (sym c.is_misled.ensures ∙ c.if-is_misled.false) c.count_request.ensures.counted
    (nowhere mac q e new at.local at.remote at.pair s2 (sym c.add_sender.ensures.index ∙ c.in_default.is) c.nothing-in_default.ensures c.add_sender.ensures.added))

pub returns-in_default-find_or_add_pair-clause-served : goal.returns-in_default-find_or_add_pair-clause-served
returns-in_default-find_or_add_pair-clause-served g c =
    let mac = g.H.Sha1HmacProvider.mac in let q = request_view c.args.request.now in let at = c.args.at in let e = c.nothing-in_default-find_or_add_pair.result in let r = c.in-Some.r in
    let s1 = record_of c.resolve_role_conflict.new.self in let s2 = record_of c.count_request.new.self in let s3 = record_of c.add_sender.new.self in
    let new = record_of c.find_or_add_pair.new.self in
    resolved mac q e new at (record_of c.args.self.now) s1 (sym c.sends_487.ensures ∙ c.if-sends_487.false) c.resolve_role_conflict.ensures.record
    (counted mac q e new at.local at.remote at.pair s1 s2 (sym c.is_misled.ensures ∙ c.if-is_misled.false) c.count_request.ensures.counted
    (joined mac q e new at.local r at.remote at.pair s2 s3 (sym c.add_sender.ensures.index ∙ c.in-Some.is) c.add_sender.ensures.added
    (unpaired mac q e new at.local r at.pair s3 (sym c.find_or_add_pair.ensures.number ∙ c.in_default-find_or_add_pair.is) c.nothing-in_default-find_or_add_pair.ensures c.find_or_add_pair.ensures.added)))

pub returns-clause-served : goal.returns-clause-served
returns-clause-served g c =
    let mac = g.H.Sha1HmacProvider.mac in let q = request_view c.args.request.now in let at = c.args.at in let r = c.in-Some.r in let number = c.in-Some-find_or_add_pair.number in
    let s1 = record_of c.resolve_role_conflict.new.self in let s2 = record_of c.count_request.new.self in let s3 = record_of c.add_sender.new.self in
    let s4 = record_of c.find_or_add_pair.new.self in let e = c.reply.result in let new = record_of c.reply.new.self in
    resolved mac q e new at (record_of c.args.self.now) s1 (sym c.sends_487.ensures ∙ c.if-sends_487.false) c.resolve_role_conflict.ensures.record
    (counted mac q e new at.local at.remote at.pair s1 s2 (sym c.is_misled.ensures ∙ c.if-is_misled.false) c.count_request.ensures.counted
    (joined mac q e new at.local r at.remote at.pair s2 s3 (sym c.add_sender.ensures.index ∙ c.in-Some.is) c.add_sender.ensures.added
    (paired mac q e new at.local r number at.pair s3 s4 (sym c.find_or_add_pair.ensures.number ∙ c.in-Some-find_or_add_pair.is) c.find_or_add_pair.ensures.added
    (responded mac q e new at.local r number c.triggered_check-check.result.at.0 c.path_between-path.result c.evaluates_at-evaluates.result c.is_some.result c.nominate_where-selected_paths.result
    s4 (record_of c.serve_pair.new.self) (record_of c.nominate_where-selected_paths.new.self) (record_of c.update_state.new.self)
    c.path_between-path.ensures c.triggered_check-check.ensures.at c.evaluates_at-evaluates.ensures c.serve_pair.ensures.served
    c.nominate_where-selected_paths.ensures.nominates c.is_some.ensures c.update_state.ensures.updated c.reply.ensures.replied))))
