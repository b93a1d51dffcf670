use Rattle.is_agent.proofs.agent.Agent.write_check.Goals as goal

-- the provider with the stored key has the function of the agent's provider
pub returns-clause-put : goal.returns-clause-put
returns-clause-put g c = rw (← c.by_remote_key.ensures) c.write_signed.ensures.put
