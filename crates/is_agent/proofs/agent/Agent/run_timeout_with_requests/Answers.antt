use Rattle.std.proofs.Common.{◌≡◌, ◌≤◌, None, length, slice_get, refl, sym, ◌∙◌, rules}
use Rattle.std.proofs.lemmas.List.{length-map}
use Rattle.is_proto.specs.declared.error.IceError.TheVariants.{OutOfMemory}
use Rattle.is_agent.specs.View.{record_of}
use Rattle.is_rules.specs.Queue.{request_at}
use Rattle.is_rules.specs.TimeoutStart.{outdated}
use Rattle.is_rules.specs.Timeouts.{MayFailAtTimeout}
use Rattle.is_agent.proofs.AgentParts.EarlyRequests.{counted, err-as, found-there, left-at, none-following, planned-late, rejected-late}
use Rattle.is_agent.proofs.agent.Agent.run_timeout_with_requests.Goals as goal

pub returns-in_err-plan-clause-rejected : goal.returns-in_err-plan-clause-rejected
returns-in_err-plan-clause-rejected g c =
    let self = c.args.self.now in let now = c.args.now.0 in let old = record_of self in let k = c.count_outdated-expired.result in
    let many : k ≡ outdated now self.timing self.remote_creds old = counted now old self.queue.items k refl c.requires c.count_outdated-expired.ensures in
    let there = left-at now old k c.requires many in
    let error = c.in_err-plan.field-0.0 in
    err-as c.from_residual.result (λ e. MayFailAtTimeout now old e) error c.from_residual.ensures.1 (rejected-late now old (slice_get old.queue k) error there c.in_err-plan.ensures.rejected)

pub serve_early_request-requires-clause-expired : goal.serve_early_request-requires-clause-expired
serve_early_request-requires-clause-expired g c =
    let self = c.args.self.now in let now = c.args.now.0 in let old = record_of self in let k = c.count_outdated-expired.result in
    let many : k ≡ outdated now self.timing self.remote_creds old = counted now old self.queue.items k refl c.requires c.count_outdated-expired.ensures in
    many

pub returns-in_err-self-clause-rejected : goal.returns-in_err-self-clause-rejected
returns-in_err-self-clause-rejected g c =
    let self = c.args.self.now in let now = c.args.now.0 in let old = record_of self in let k = c.count_outdated-expired.result in
    let many : k ≡ outdated now self.timing self.remote_creds old = counted now old self.queue.items k refl c.requires c.count_outdated-expired.ensures in
    let memory = planned-late now old (slice_get old.queue k) c.in_ok-plan.plan (left-at now old k c.requires many) c.in_ok-plan.ensures.planned in
    err-as c.from_residual-in_err-self.result (λ e. MayFailAtTimeout now old e) OutOfMemory c.from_residual-in_err-self.ensures.1 memory

pub returns-then-expired-len-clause-passed : goal.returns-then-expired-len-clause-passed
returns-then-expired-len-clause-passed g c =
    let self = c.args.self.now in let now = c.args.now.0 in let old = record_of self in let k = c.count_outdated-expired.result in
    let many : k ≡ outdated now self.timing self.remote_creds old = counted now old self.queue.items k refl c.requires c.count_outdated-expired.ensures in
    found-there (slice_get old.queue k) (request_at now old) _ _ _ _ (left-at now old k c.requires many) c.in_ok-plan.ensures.planned c.in_ok-self.ensures.served refl

pub run_timeout_without_request-requires : goal.run_timeout_without_request-requires
run_timeout_without_request-requires g c =
    let self = c.args.self.now in let now = c.args.now.0 in let old = record_of self in let k = c.count_outdated-expired.result in
    let many : k ≡ outdated now self.timing self.remote_creds old = counted now old self.queue.items k refl c.requires c.count_outdated-expired.ensures in
    many

pub returns-in_err-run_timeout_without_request-clause-rejected : goal.returns-in_err-run_timeout_without_request-clause-rejected
returns-in_err-run_timeout_without_request-clause-rejected g c =
    let self = c.args.self.now in let now = c.args.now.0 in let old = record_of self in let k = c.count_outdated-expired.result in
    let many : k ≡ outdated now self.timing self.remote_creds old = counted now old self.queue.items k refl c.requires c.count_outdated-expired.ensures in
    let beyond : length old.queue ≤ k = rw (length-map) (search rules) in
    let none : request_at now old ≡ None = sym (left-at now old k c.requires many) ∙ none-following old.queue k beyond in
    let memory : MayFailAtTimeout now old OutOfMemory = rw (none) refl in
    err-as c.from_residual-in_err-run_timeout_without_request.result (λ e. MayFailAtTimeout now old e) OutOfMemory c.from_residual-in_err-run_timeout_without_request.ensures.1 memory

pub returns-clause-passed : goal.returns-clause-passed
returns-clause-passed g c =
    let self = c.args.self.now in let now = c.args.now.0 in let old = record_of self in let k = c.count_outdated-expired.result in
    let many : k ≡ outdated now self.timing self.remote_creds old = counted now old self.queue.items k refl c.requires c.count_outdated-expired.ensures in
    let beyond : length old.queue ≤ k = rw (length-map) (search rules) in
    let none : request_at now old ≡ None = sym (left-at now old k c.requires many) ∙ none-following old.queue k beyond in
    rw (none) c.in_ok-run_timeout_without_request.ensures.advanced
