mod EntriesRead
