use Rattle.is_candidate.proofs.CandidateJson.PrintedJson.{on_ok, ten_more}
use Rattle.is_candidate.proofs.candidate.info_text.write_info.Goals as goal

pub returns-clause-tokens : goal.returns-clause-tokens
returns-clause-tokens c =
    on_ok c.end_object.result _ _ (λ last. ten_more _ _ _ _ _ _ _ _ _ _ _ c.in_ok-begin_object.ensures.ok c.in_ok-key.ensures.ok c.in_ok-string.ensures.ok
    c.in_ok-key-2.ensures.ok c.in_ok-u64.ensures.ok c.in_ok-key-3.ensures.ok c.in_ok-null.ensures.ok c.in_ok-key-4.ensures.ok
    c.in_ok-write_fragment.ensures.tokens last) c.end_object.ensures.ok
