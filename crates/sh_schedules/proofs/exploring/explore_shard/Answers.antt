use Rattle.sh_schedules.proofs.exploring.explore_shard.Goals as goal

pub returns-in-Ok-clause-explored : goal.returns-in-Ok-clause-explored
returns-in-Ok-clause-explored g c = record {
  files = c.in_ok-files.files;
  image_is = c.in_ok-files.ensures.read;
  exploration = c.in-Ok.ensures.explored _ c.in_ok-files.ensures.read;
  within = c.in-Ok.ensures.within;
  stopped = c.in-Ok.ensures.stopped;
}
