-- A table that passes all checks but the last has room for the job.
use Rattle.std.proofs.Common.{arith}
use Rattle.table.specs.Dress.{ruled}
use Rattle.table.proofs.Clauses.{job_room}
use Rattle.table.proofs.Table.try_arrive.Goals as goal

pub with_job-requires : goal.with_job-requires
with_job-requires c = grind (arith, job_room (ruled c.args.self.now) c.args.place)
