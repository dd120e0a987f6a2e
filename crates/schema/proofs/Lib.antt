mod OneMoreRecord
mod RecordsBefore
mod RecordsResumed
