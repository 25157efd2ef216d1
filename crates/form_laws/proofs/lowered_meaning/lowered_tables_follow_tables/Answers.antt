use Rattle.form_laws.proofs.LoweredMeaning.{hazards_go, table_goes, streams_go, buffers_go}
use Rattle.form_laws.proofs.lowered_meaning.lowered_tables_follow_tables.Goals as goal

pub returns-clause-hazards : goal.returns-clause-hazards
returns-clause-hazards c = λ s h t d w none history b e. hazards_go s w none h history t b d e

pub returns-clause-there : goal.returns-clause-there
returns-clause-there c = λ s h t lists w none history b e. table_goes s w none h history t b lists e

pub returns-clause-streams : goal.returns-clause-streams
returns-clause-streams c = λ s h t x lists low w none history b e f less. streams_go s w none h history t lists low e f b x less

pub returns-clause-buffers : goal.returns-clause-buffers
returns-clause-buffers c = λ s h t k lists low x w none history b e f g. buffers_go s w none h history t lists low e f b k x g
